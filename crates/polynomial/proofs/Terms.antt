-- The terms of X as the code works them out, from the left: each product and each sum is a whole number that fits an i64, and the last
-- sum is X. Assumes nothing.
use mathlib.Core.Path.{◌≡◌, refl, sym, ◌∙◌, ap}
use Prim.Native.Nat.{ℕ, zero, suc, ◌+◌, ◌*◌, ◌^◌, ◌≤◌, ◌<◌}
use native.Mathlib.Nat.{pow-zero, pow-suc, mul-one}
use native.Mathlib.Omega.{arith}
use lib.IntN.{ℤ, pos, negsuc, neg_ℤ, ◌+ℤ◌, ◌*ℤ◌, nat_abs}
use mir.Syntax.{w64}
use mir.Val.{to_z}
use Rattle.polynomial.specs.declared.Coefficients.{Coefficients}
use Rattle.polynomial.specs.Polynomial.{X, limit, Limited}
use Rattle.polynomial.proofs.Integers.{times-times}
use Rattle.polynomial.proofs.Kept.{kept, Is, kept-is, times, plus}

times-one : (z : ℤ) → z *ℤ pos 1 ≡ z
times-one (pos n) = ap pos (mul-one n)
times-one (negsuc n) = ap (λ (k : ℕ). neg_ℤ (pos k)) (mul-one (suc n))

-- n products of z with t, one after the other: as the machine keeps them, as integers, and the limit of a size after them
module _ (t : ℕ) where
  abbrev pub product : ℕ → ℤ → ℤ
  product zero z = z
  product (suc n) z = kept (product n z) *ℤ to_z w64 t

  abbrev pub exact : ℕ → ℤ → ℤ
  exact zero z = z
  exact (suc n) z = exact n z *ℤ pos t

  by-power : (n : ℕ) (z : ℤ) → exact n z ≡ z *ℤ pos (t ^ n)
  by-power zero z = sym (times-one z) ∙ ap (λ (k : ℕ). z *ℤ pos k) (sym (pow-zero t))
  by-power (suc n) z = ap (λ (y : ℤ). y *ℤ pos t) (by-power n z) ∙ times-times z (t ^ n) t ∙ ap (λ (k : ℕ). z *ℤ pos k) (sym (pow-suc t n))

abbrev pub grown : ℕ → ℕ → ℕ
grown zero b = b
grown (suc n) b = grown n b * 366

module _ (t : ℕ) (day : t ≤ 366) where
  pub term : (n : ℕ) (z : ℤ) {b : ℕ} → nat_abs z ≤ b → grown n b < 2 ^ 63 → Is (grown n b) (product t n z) (exact t n z)
  term zero z h k = record { same = refl; size = h }
  term (suc n) z {b} h k = times t day (kept-is (term n z h (omega arith)) (omega arith))

-- the code's sums of the first two terms, the first three, and so on
module _ (c : Coefficients) (limited : Limited c) (t : ℕ) (day : t ≤ 366) where
  -- a term as it is added
  added : (n : ℕ) (z : ℤ) {b : ℕ} → nat_abs z ≤ b → grown n b < 2 ^ 63 → Is (grown n b) (kept (product t n z)) (exact t n z)
  added n z h k = kept-is (term t day n z h k) k

  abbrev pub machine2 : ℤ
  machine2 = kept (product t 4 c.t4) +ℤ kept (product t 3 c.t3)

  abbrev pub machine3 : ℤ
  machine3 = kept machine2 +ℤ kept (product t 2 c.t2)

  abbrev pub machine4 : ℤ
  machine4 = kept machine3 +ℤ kept (product t 1 c.t1)

  abbrev pub machine5 : ℤ
  machine5 = kept machine4 +ℤ kept c.t0

  pub sum2 : Is (grown 4 (limit 0) + grown 3 (limit 1)) machine2 (exact t 4 c.t4 +ℤ exact t 3 c.t3)
  sum2 = plus (added 4 c.t4 limited.small4 (omega arith)) (added 3 c.t3 limited.small3 (omega arith))

  pub sum3 : Is (grown 4 (limit 0) + grown 3 (limit 1) + grown 2 (limit 2)) machine3 (exact t 4 c.t4 +ℤ exact t 3 c.t3 +ℤ exact t 2 c.t2)
  sum3 = plus (kept-is sum2 (omega arith)) (added 2 c.t2 limited.small2 (omega arith))

  pub sum4 : Is (grown 4 (limit 0) + grown 3 (limit 1) + grown 2 (limit 2) + grown 1 (limit 3)) machine4
      (exact t 4 c.t4 +ℤ exact t 3 c.t3 +ℤ exact t 2 c.t2 +ℤ exact t 1 c.t1)
  sum4 = plus (kept-is sum3 (omega arith)) (added 1 c.t1 limited.small1 (omega arith))

  pub sum5 : Is (grown 4 (limit 0) + grown 3 (limit 1) + grown 2 (limit 2) + grown 1 (limit 3) + limit 4) machine5
      (exact t 4 c.t4 +ℤ exact t 3 c.t3 +ℤ exact t 2 c.t2 +ℤ exact t 1 c.t1 +ℤ c.t0)
  sum5 = plus (kept-is sum4 (omega arith)) (added 0 c.t0 limited.small0 (omega arith))

  pub sum-is-X : kept machine5 ≡ X c t
  unfolding X
  sum-is-X = (kept-is sum5 (omega arith)).same ∙ rw (by-power t 4 c.t4, by-power t 3 c.t3, by-power t 2 c.t2)
