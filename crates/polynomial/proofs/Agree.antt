-- Polynomials agree exactly when they are equal: number by number. Assumes nothing.
use mathlib.Core.Path.{◌≡◌, refl, ap}
use mathlib.Core.Bool.{Bool, true, ◌&&◌}
use Prim.Native.Nat.{ℕ}
use native.Mathlib.Omega.{arith}
use lib.IntN.{ℤ, pos, negsuc}
use borrow.Author.Tests.{eqb-true, eq-eqb}
use Rattle.polynomial.specs.declared.Coefficients.{Coefficients}
use Rattle.polynomial.specs.Polynomial.{same_number, agree, AgreeIsEqual}
use Rattle.polynomial.proofs.Days.{first, rest}

equal : (a b : ℤ) → same_number a b ≡ true → a ≡ b
equal (pos a) (pos b) h = ap pos (eqb-true a b h)
equal (pos a) (negsuc b) h = let z : ◌≡◌ {A = ℕ} 0 1 = cc in absurd (omega arith)
equal (negsuc a) (pos b) h = let z : ◌≡◌ {A = ℕ} 0 1 = cc in absurd (omega arith)
equal (negsuc a) (negsuc b) h = ap negsuc (eqb-true a b h)

itself : (a : ℤ) → same_number a a ≡ true
itself (pos a) = eq-eqb a a refl
itself (negsuc a) = eq-eqb a a refl

-- all five tests hold
five : (a b c d e : Bool) → (a && b && c && d && e) ≡ true → (a ≡ true) × (b ≡ true) × (c ≡ true) × (d ≡ true) × (e ≡ true)
five a b c d e h =
    let four = first (a && b && c && d) e h in
    let three = first (a && b && c) d four in
    let two = first (a && b) c three in
    (first a b two, rest a b two, rest (a && b) c three, rest (a && b && c) d four, rest (a && b && c && d) e h)

agree-equal : (a b : Coefficients) → agree a b ≡ true → a ≡ b
unfolding agree
agree-equal a b h =
    let (same4, same3, same2, same1, same0) =
    five (same_number a.t4 b.t4) (same_number a.t3 b.t3) (same_number a.t2 b.t2) (same_number a.t1 b.t1) (same_number a.t0 b.t0) h in
    λ i.
    record {
      t4 = equal a.t4 b.t4 same4 i;
      t3 = equal a.t3 b.t3 same3 i;
      t2 = equal a.t2 b.t2 same2 i;
      t1 = equal a.t1 b.t1 same1 i;
      t0 = equal a.t0 b.t0 same0 i;
    }

agree-itself : (a : Coefficients) → agree a a ≡ true
unfolding agree
agree-itself a = rw (itself a.t4, itself a.t3, itself a.t2, itself a.t1, itself a.t0)

pub agree-is-equal : AgreeIsEqual
unfolding AgreeIsEqual
agree-is-equal a b = (agree-equal a b, λ e. rw e (agree-itself b))
