-- A run's sum keeps to its bound: what goes in comes out as figures or as carry, so the carry costs less than 1 Wh, and the
-- roundings cost what each quarter hour's does.
-- Assumes nothing.
use mathlib.Core.Path.{◌≡◌, refl, ap}
use mathlib.Core.List.{List, [], ◌∷◌}
use Prim.Native.Nat.{ℕ, ◌+◌, ◌*◌, ◌^◌, ◌≤◌, ◌<◌}
use native.Mathlib.Omega.{arith}
use native.Mathlib.Nat.{mul-add, mul_assoc, mul_left_comm, mul-le-mul_left}
use lib.ListN.{length}
use Rattle.lists.specs.Lists.{sum, Each}
use Rattle.carry.specs.Energy.{Quarter, powers, values, products, exact_sum, Rounded, Within, household_bound, other_bound, Unrounded, Bounded}
use Rattle.carry.specs.Carry.{largest_carry, figures}
use Rattle.carry.proofs.Carry.{carry-small, telescope}

-- the roundings of a run
over : (run : List Quarter) → Each Rounded run → sum (powers run) * 10 ^ 12 ≤ sum (products run) + (5 * 10 ^ 11 * length run + 5 * 10 ^ 7 * sum (values run))
unfolding sum
over [] e = omega arith
over (q ∷ run) e = omega (arith, e.0.above, over run e.1)

under : (run : List Quarter) → Each Rounded run → sum (products run) ≤ sum (powers run) * 10 ^ 12 + (5 * 10 ^ 11 * length run + 5 * 10 ^ 7 * sum (values run))
unfolding sum
under [] e = omega arith
under (q ∷ run) e = omega (arith, e.0.below, under run e.1)

same : (run : List Quarter) → Each Unrounded run → sum (powers run) * 10 ^ 12 ≡ sum (products run)
unfolding sum
same [] e = refl
same (q ∷ run) e = omega (arith, e.0, same run e.1)

-- the carry costs less than 1 Wh: for any sum `exact` that lies within `slack` of the powers' products
carried : (yearly carry exact slack : ℕ) (run : List Quarter) → carry ≤ largest_carry →
    yearly * (sum (powers run) * 10 ^ 12) ≤ exact + slack →
    exact ≤ yearly * (sum (powers run) * 10 ^ 12) + slack →
    (4 * 10 ^ 16 * sum (figures yearly (powers run) carry) < exact + (4 * 10 ^ 16 + slack))
    × (exact < 4 * 10 ^ 16 * sum (figures yearly (powers run) carry) + (4 * 10 ^ 16 + slack))
carried yearly carry exact slack run h a b =
    let product = mul_assoc yearly (sum (powers run)) (10 ^ 12) in
    let whole = telescope yearly carry (powers run) in
    let small = carry-small yearly carry (powers run) h in
    (omega arith, omega arith)

-- the roundings of a run, times the yearly use
spread : (yearly exact slots total : ℕ) → yearly * (exact + (5 * 10 ^ 11 * slots + 5 * 10 ^ 7 * total)) ≡ yearly * exact + (5 * 10 ^ 7 * (yearly * total) + 5 * 10 ^ 11 * (yearly * slots))
spread yearly exact slots total =
    omega (
      arith,
      mul-add yearly exact (5 * 10 ^ 11 * slots + 5 * 10 ^ 7 * total),
      mul-add yearly (5 * 10 ^ 11 * slots) (5 * 10 ^ 7 * total),
      mul_left_comm yearly (5 * 10 ^ 11) slots,
      mul_left_comm yearly (5 * 10 ^ 7) total,
    )

household : (yearly carry : ℕ) (run : List Quarter) → carry ≤ largest_carry → Each Rounded run → Within (household_bound yearly run) (exact_sum yearly run) (sum (figures yearly (powers run) carry))
household yearly carry run h e =
    let n = length run in
    let v = sum (values run) in
    let p = sum (products run) in
    let s = sum (powers run) * 10 ^ 12 in
    let slack = 5 * 10 ^ 7 * (yearly * v) + 5 * 10 ^ 11 * (yearly * n) in
    let above : yearly * s ≤ yearly * p + slack = omega (arith, mul-le-mul_left yearly (over run e), spread yearly p n v) in
    let below : yearly * p ≤ yearly * s + slack = omega (arith, mul-le-mul_left yearly (under run e), spread yearly s n v) in
    let both = carried yearly carry (yearly * p) slack run h above below in
    record { above = both.0; below = both.1 }

other : (yearly carry : ℕ) (run : List Quarter) → carry ≤ largest_carry → Each Unrounded run → Within other_bound (exact_sum yearly run) (sum (figures yearly (powers run) carry))
other yearly carry run h e =
    let p = sum (products run) in
    let s = sum (powers run) * 10 ^ 12 in
    let exact : yearly * s ≡ yearly * p = ap (λ (k : ℕ). yearly * k) (same run e) in
    let both = carried yearly carry (yearly * p) 0 run h (omega arith) (omega arith) in
    record { above = omega (arith, both.0); below = omega (arith, both.1) }

pub bounded : Bounded
unfolding Bounded
bounded yearly carry run h = (household yearly carry run h, other yearly carry run h)
