-- The range test on every day.
use mathlib.Core.Path.{◌≡◌, refl, sym, ◌∙◌, ap}
use mathlib.Core.Bool.{Bool, true, false, ◌&&◌, false≢true}
use Prim.Native.Nat.{ℕ, zero, suc, ◌^◌}
use lib.Ieee.{Float, eq}
use lib.IntN.{ℤ, pos, zero-*ℤ, +ℤ_idl, ◌*ℤ◌}
use Rattle.polynomial.specs.declared.Coefficients.{Coefficients}
use Rattle.polynomial.specs.Polynomial.{X, limit, in_range, every_day, usable}
use Rattle.polynomial_binary64.specs.declared.Polynomial.{Polynomial}
use Rattle.polynomial_binary64.specs.Binary64.{whole, coefficients_of, allowed, Allowed}
use Rattle.polynomial_horner.specs.Inside.{Constant}
use Rattle.polynomial_horner.proofs.WholeFloats.{IsWhole, allowed-whole}
use Rattle.polynomial_horner.proofs.Comparisons.{is_zero}

-- ---- a test on every day
both : (a b : Bool) → a && b ≡ true → (a ≡ true) × (b ≡ true)
both true b h = (refl, h)
both false b h = absurd (false≢true h)

-- ---- a polynomial that is constant
-- coefficients that equal 0 are the whole number 0
module _ (none : Float) (zero-float : IsWhole none (pos 0)) where
  zero-coefficient : (most : ℕ) (c : Float) → allowed most c ≡ true → eq c none ≡ true → whole c ≡ pos 0
  zero-coefficient most c h e = is_zero c none (whole c) (allowed-whole most c h).is_whole zero-float e

  pub constant : (p : Polynomial) → Allowed p → eq p.t4 none && eq p.t3 none && eq p.t2 none && eq p.t1 none ≡ true → Constant (coefficients_of p)
  constant p h e =
      let three = both (eq p.t4 none && eq p.t3 none && eq p.t2 none) (eq p.t1 none) e in
      let two = both (eq p.t4 none && eq p.t3 none) (eq p.t2 none) three.0 in
      let one = both (eq p.t4 none) (eq p.t3 none) two.0 in
      record {
        zero4 = zero-coefficient (limit 0) p.t4 h.allowed4 one.0;
        zero3 = zero-coefficient (limit 1) p.t3 h.allowed3 one.1;
        zero2 = zero-coefficient (limit 2) p.t2 h.allowed2 two.1;
        zero1 = zero-coefficient (limit 3) p.t1 h.allowed1 three.1;
      }

zero-product : (z : ℤ) (k : ℕ) → z ≡ pos 0 → z *ℤ pos k ≡ pos 0
zero-product z k h = ap (λ (y : ℤ). y *ℤ pos k) h ∙ zero-*ℤ (pos k)

constant-X : (c : Coefficients) (t : ℕ) → Constant c → X c t ≡ c.t0
unfolding X
constant-X c t h =
    rw (zero-product c.t4 (t ^ 4) h.zero4, zero-product c.t3 (t ^ 3) h.zero3, zero-product c.t2 (t ^ 2) h.zero2, zero-product c.t1 t h.zero1)
    (+ℤ_idl c.t0)

same-every-day : (test : ℕ → Bool) (answer : Bool) → ((t : ℕ) → test t ≡ answer) → (n : ℕ) → every_day test (suc n) ≡ answer
same-every-day test answer h zero = rw (h 1) (first answer)
  where
    first : (b : Bool) → b && true ≡ b
    first true = refl
    first false = refl
same-every-day test answer h (suc n) = rw (same-every-day test answer h n, h (suc (suc n))) (twice answer)
  where
    twice : (b : Bool) → b && b ≡ b
    twice true = refl
    twice false = refl

pub constant-usable : (c : Coefficients) → Constant c → in_range c.t0 ≡ usable c
unfolding usable
constant-usable c h = sym (same-every-day (λ (t : ℕ). in_range (X c t)) (in_range c.t0) (λ (t : ℕ). ap in_range (constant-X c t h)) 365)
