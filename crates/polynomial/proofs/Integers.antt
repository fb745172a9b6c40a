-- Laws of integers that `omega`, which reads none, does not give: products with a natural number, and sizes. By cases on the sign.
-- Assumes nothing.
use mathlib.Core.Path.{◌≡◌, refl, ◌∙◌, ap}
use mathlib.Core.Bool.{Bool, true, false, cond}
use Prim.Native.Nat.{ℕ, zero, suc, ◌+◌, ◌-◌, ◌*◌, ◌≤◌}
use native.Mathlib.Nat.{zero-mul, mul_assoc, mul-le-mul}
use native.Mathlib.Omega.{arith}
use lib.Dec.{ltb}
use lib.IntN.{ℤ, pos, negsuc, ◌+ℤ◌, ◌*ℤ◌, neg_ℤ, nat_abs, sub_ℕ}
use borrow.Author.Tests.{ltb-true}

neg-times : (k a : ℕ) → neg_ℤ (pos k) *ℤ pos a ≡ neg_ℤ (pos (k * a))
neg-times zero a = rw (zero-mul a)
neg-times (suc k) a = refl

-- two natural factors, one after the other
pub times-times : (z : ℤ) (a b : ℕ) → z *ℤ pos a *ℤ pos b ≡ z *ℤ pos (a * b)
times-times (pos n) a b = ap pos (mul_assoc n a b)
times-times (negsuc n) a b = neg-times (suc n * a) b ∙ ap (λ (k : ℕ). neg_ℤ (pos k)) (mul_assoc (suc n) a b)

size-neg : (k : ℕ) → nat_abs (neg_ℤ (pos k)) ≡ k
size-neg zero = refl
size-neg (suc k) = refl

pub size-times : (z : ℤ) (a : ℕ) → nat_abs (z *ℤ pos a) ≡ nat_abs z * a
size-times (pos n) a = refl
size-times (negsuc n) a = size-neg (suc n * a)

size-difference : (a b : ℕ) → nat_abs (sub_ℕ a b) ≤ a + b
size-difference a b = go (ltb a b) refl
  where
    go : (less : Bool) → ltb a b ≡ less → nat_abs (cond less (negsuc (b - suc a)) (pos (a - b))) ≤ a + b
    go true e = omega (arith, ltb-true a b e)
    go false e = omega arith

pub size-plus : (y z : ℤ) → nat_abs (y +ℤ z) ≤ nat_abs y + nat_abs z
size-plus (pos a) (pos b) = omega arith
size-plus (pos a) (negsuc b) = size-difference a (suc b)
size-plus (negsuc a) (pos b) = omega (arith, size-difference b (suc a))
size-plus (negsuc a) (negsuc b) = omega arith

-- a size that grows with a factor up to a limit
pub size-grows : (z : ℤ) {b t m : ℕ} → nat_abs z ≤ b → t ≤ m → nat_abs (z *ℤ pos t) ≤ b * m
size-grows z {b} {t} {m} h k = omega (arith, size-times z t, mul-le-mul h k)
