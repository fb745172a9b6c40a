-- X is a whole number above 0 and at most 2 × 10^12, for every group and day: for households by a test of each day, for
-- the other groups by computation. F is that number rounded, so at most 20,000. Assumes nothing.
use mathlib.Core.Path.{◌≡◌, refl, ap}
use mathlib.Core.Bool.{Bool, false, ◌&&◌}
use Prim.Native.Nat.{ℕ, zero, suc, ◌*◌, ◌^◌, ◌≤◌, ◌<◌}
use native.Mathlib.Omega.{arith}
use lib.Dec.{T, leb, ltb, ltb→lt, leb→le}
use lib.IntN.{ℤ, pos, negsuc, nat_abs}
use mir.Facts.{and_yes}
use Rattle.dynamisation.specs.Dynamisation.{household_x, X, half_up, F}
use Rattle.dynamisation.proofs.Days.{Day, on-day}

-- z is the whole number x
pub record Whole (z : ℤ) : Type 0 where
  pub x : ℕ
  pub exact : z ≡ pos x
  pub positive : 0 < x
  pub limit : x ≤ 2 * 10 ^ 12

abbrev whole-test : ℤ → Bool
whole-test (pos x) = ltb 0 x && leb x (2 * 10 ^ 12)
whole-test (negsuc n) = false

passed : (z : ℤ) → T (whole-test z) → Whole z
passed (pos x) p =
    let q = and_yes (ltb 0 x) (leb x (2 * 10 ^ 12)) p in
    record { x = x; exact = refl; positive = ltb→lt _ _ q.0; limit = leb→le _ _ q.1 }
passed (negsuc n) p = absurd p

pub whole : (group t : ℕ) → Day t → Whole (X group t)
unfolding X household_x
whole zero t d = passed _ (on-day (λ t. whole-test (household_x t)) tt t d)
whole (suc group) t d = passed _ tt

-- F, from the number that X is
pub rounded : (group t : ℕ) (w : Whole (X group t)) → F group t ≡ half_up w.x (10 ^ 8)
unfolding F
rounded group t w = ap (λ (z : ℤ). half_up (nat_abs z) (10 ^ 8)) w.exact

pub F-small : (group t : ℕ) → Day t → F group t ≤ 20_000
F-small group t d = let w = whole group t d in omega (arith, rounded group t w)
