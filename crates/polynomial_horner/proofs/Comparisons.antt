-- Comparisons of binary64 numbers that are whole numbers are those of the whole numbers.
use mathlib.Core.Path.{◌≡◌, refl, sym, ◌∙◌, ap}
use mathlib.Core.Logic.{◌⊎◌, inl, inr}
use mathlib.Core.Bool.{Bool, true, false, ◌&&◌, ◌||◌, beq, true≢false, false≢true}
use Prim.Native.Nat.{ℕ, zero, suc, ◌*◌, ◌^◌, ◌<◌}
use native.Mathlib.Nat.{mul-pos, mul-lt-mul_of_pos_right, mul-le-mul_right, eq-or-lt_of_le, zero-mul}
use native.Mathlib.Omega.{arith}
use lib.Dec.{leb, ltb, eqb}
use lib.IntN.{ℤ, pos, negsuc}
use lib.Ieee.{Float, nan, inf, fin, up, down, below, level, eq, le}
use lib.Ieee.Exact.{HasValue}
use lib.Ieee.Fits.{down_pos}
use borrow.Author.Tests.{leb-true, leb-false, le-leb, lt-leb, lt-ltb, le-ltb, eq-eqb, ne_eqb, eqb-true}
use Rattle.polynomial.specs.Polynomial.{in_range}
use Rattle.polynomial_horner.proofs.WholeFloats.{IsWhole, left-part, right-part}

leb-scaled : (a b d : ℕ) → 0 < d → leb (a * d) (b * d) ≡ leb a b
leb-scaled a b d h = go (leb a b) refl
  where
    go : (test : Bool) → leb a b ≡ test → leb (a * d) (b * d) ≡ test
    go true e = le-leb (a * d) (b * d) (mul-le-mul_right d (leb-true a b e))
    go false e = lt-leb (a * d) (b * d) (mul-lt-mul_of_pos_right (leb-false a b e) h)

-- below or equal is at most
at_most : (a b : ℕ) → below false a false b || level false a false b ≡ leb a b
at_most a b = go (leb a b) refl
  where
    split : (a ≡ b) ⊎ (a < b) → ltb a b || (eqb a b && true) ≡ true
    split (inl e) = rw (le-ltb a b (omega arith), eq-eqb a b e) refl
    split (inr l) = rw (lt-ltb a b l) refl

    go : (test : Bool) → leb a b ≡ test → ltb a b || (eqb a b && true) ≡ test
    go true e = split (eq-or-lt_of_le (leb-true a b e))
    go false e = let above : b < a = leb-false a b e in rw (le-ltb a b (omega arith), ne_eqb a b (λ (same : a ≡ b). omega arith)) refl

pub le-whole : (x y : Float) (a b : ℕ) → HasValue x false a 1 → HasValue y false b 1 → le x y ≡ leb a b
unfolding le
le-whole nan y a b p q = elim p [ ]
le-whole (inf _) y a b p q = elim p [ ]
le-whole (fin s m e) nan a b p q = elim q [ ]
le-whole (fin s m e) (inf _) a b p q = elim q [ ]
le-whole (fin true m e) (fin v n d) a b p q = absurd (true≢false p.0)
le-whole (fin false m e) (fin true n d) a b p q = absurd (true≢false q.0)
le-whole (fin false m e) (fin false n d) a b p q =
    at_most (m * up e * down d) (n * up d * down e)
    ∙ ap (λ (k : ℕ). leb k (n * up d * down e)) (left-part (m * up e) a (down e) (down d) p.1)
    ∙ ap (λ (k : ℕ). leb (a * (down e * down d)) k) (right-part (n * up d) b (down e) (down d) q.1)
    ∙ leb-scaled a b (down e * down d) (mul-pos (down_pos e) (down_pos d))

-- a number that is 0 at least is not at most a negative one
never : (a b : ℕ) → 0 < b → below false a true b || level false a true b ≡ false
never a b h = go (eqb a b) (eqb a 0) refl refl
  where
    go : (same none : Bool) → eqb a b ≡ same → eqb a 0 ≡ none → same && none ≡ false
    go false none e f = refl
    go true false e f = refl
    go true true e f = absurd (omega (arith, eqb-true a b e, eqb-true a 0 f))

pub le-negative : (x y : Float) (a b : ℕ) → HasValue x false a 1 → HasValue y true (suc b) 1 → le x y ≡ false
unfolding le
le-negative nan y a b p q = elim p [ ]
le-negative (inf _) y a b p q = elim p [ ]
le-negative (fin s m e) nan a b p q = elim q [ ]
le-negative (fin s m e) (inf _) a b p q = elim q [ ]
le-negative (fin true m e) (fin v n d) a b p q = absurd (true≢false p.0)
le-negative (fin false m e) (fin false n d) a b p q = absurd (false≢true q.0)
le-negative (fin false m e) (fin true n d) a b p q =
    let size = right-part (n * up d) (suc b) (down e) (down d) q.1 in
    let above : 0 < suc b * (down e * down d) = mul-pos (omega arith) (mul-pos (down_pos e) (down_pos d)) in
    never (m * up e * down d) (n * up d * down e) (omega arith)

-- from 0 to 2 × 10^12, by two comparisons
pub in-range : (none most x : Float) (z : ℤ) → IsWhole none (pos 0) → IsWhole most (pos (2 * 10 ^ 12)) → IsWhole x z →
    le none x && le x most ≡ in_range z
in-range none most x (pos n) p q h = rw (le-whole none x 0 n p h, le-whole x most n (2 * 10 ^ 12) h q, le-leb 0 n (omega arith)) refl
in-range none most x (negsuc n) p q h = rw (le-negative none x 0 n p h) refl

-- equal to 0
above_zero : (a d : ℕ) → 0 < d → a * d ≡ 0 → a ≡ 0
above_zero zero d h e = refl
above_zero (suc a) d h e = let above : 0 < suc a * d = mul-pos (omega arith) h in absurd (omega arith)

eq-level : (s t : Bool) (a b : ℕ) → level s a t b ≡ true → a ≡ b
eq-level s t a b h = go (eqb a b) (beq s t || eqb a 0) refl h
  where
    go : (same alike : Bool) → eqb a b ≡ same → same && alike ≡ true → a ≡ b
    go true alike e g = eqb-true a b e
    go false alike e g = absurd (false≢true g)

size-zero : (x none : Float) (s : Bool) (a : ℕ) → HasValue x s a 1 → HasValue none false 0 1 → eq x none ≡ true → a ≡ 0
unfolding eq
size-zero nan none s a p q h = elim p [ ]
size-zero (inf _) none s a p q h = elim p [ ]
size-zero (fin u m e) nan s a p q h = elim q [ ]
size-zero (fin u m e) (inf _) s a p q h = elim q [ ]
size-zero (fin u m e) (fin v n d) s a p q h =
    let same : m * up e * down d ≡ n * up d * down e = eq-level u v (m * up e * down d) (n * up d * down e) h in
    above_zero a (down e * down d) (mul-pos (down_pos e) (down_pos d))
    (sym (left-part (m * up e) a (down e) (down d) p.1) ∙ same ∙ right-part (n * up d) 0 (down e) (down d) q.1 ∙ zero-mul (down e * down d))

pub is_zero : (x none : Float) (z : ℤ) → IsWhole x z → IsWhole none (pos 0) → eq x none ≡ true → z ≡ pos 0
is_zero x none (pos n) p q h = ap pos (size-zero x none false n p q h)
is_zero x none (negsuc n) p q h = absurd (omega (arith, size-zero x none true (suc n) p q h))
