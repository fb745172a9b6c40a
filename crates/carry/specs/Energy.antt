-- Document 01, "Series and carry": a run's exact and static energy, and how far its sum may lie from the exact one. Stated for
-- any list of quarter hours with P, X and Q, whichever days and tables they come from.
use Rattle.std.specs.Prelude.{◌≡◌, List, map, ℕ, ◌+◌, ◌*◌, ◌^◌, ◌≤◌, ◌<◌, length}
use Rattle.lists.specs.Lists.{sum, Each}
use Rattle.carry.specs.Carry.{largest_carry, figures}

-- a quarter hour: the value P of its position, the X of its day, and the power Q made of both
pub record Quarter : Type 0 where
  pub value : ℕ
  pub exact : ℕ
  pub power : ℕ

-- the powers of a run, its values, and its products P × X
abbrev pub powers : List Quarter → List ℕ
powers run = map (λ q. q.power) run

abbrev pub values : List Quarter → List ℕ
values run = map (λ q. q.value) run

abbrev pub products : List Quarter → List ℕ
products run = map (λ q. q.value * q.exact) run

-- "The exact energy of a run is the sum of P × X × A over 4 × 10^16 Wh, its static energy the sum of P × A over 40,000 Wh.":
-- the two sums
abbrev pub exact_sum : ℕ → List Quarter → ℕ
exact_sum yearly run = yearly * sum (products run)

abbrev pub static_sum : ℕ → List Quarter → ℕ
static_sum yearly run = yearly * sum (values run)

-- Q is within the two roundings of P × X / 10^12: half of 10^12 for its own, and half of 10^8 for F's, times P
pub record Rounded (q : Quarter) : Type 0 where
  pub above : q.power * 10 ^ 12 ≤ q.value * q.exact + (5 * 10 ^ 11 + q.value * (5 * 10 ^ 7))
  pub below : q.value * q.exact ≤ q.power * 10 ^ 12 + (5 * 10 ^ 11 + q.value * (5 * 10 ^ 7))

-- what a bound on a run says, multiplied out by 4 × 10^16: its sum in Wh lies less than the bound above and below its exact energy
pub record Within (bound exact total : ℕ) : Type 0 where
  pub above : 4 * 10 ^ 16 * total < exact + bound
  pub below : exact < 4 * 10 ^ 16 * total + bound

-- households: "less than 1 Wh + its static energy (factor left out) / 20,000 + n × A / 80,000 Wh"
abbrev pub household_bound : ℕ → List Quarter → ℕ
household_bound yearly run = 4 * 10 ^ 16 + (5 * 10 ^ 7 * static_sum yearly run + 5 * 10 ^ 11 * (yearly * length run))

-- all others: "less than 1 Wh"
abbrev pub other_bound : ℕ
other_bound = 4 * 10 ^ 16

-- Q is P × X / 10^12 itself
abbrev pub Unrounded : Quarter → Type 0
Unrounded q = q.power * 10 ^ 12 ≡ q.value * q.exact

-- the theorem: whatever carry a run begins with, its sum keeps to its bound. Proved in proofs/Energy.antt.
unfoldable pub Bounded : Type 0
Bounded =
    (yearly carry : ℕ) (run : List Quarter) → carry ≤ largest_carry →
    (Each Rounded run → Within (household_bound yearly run) (exact_sum yearly run) (sum (figures yearly (powers run) carry)))
    × (Each Unrounded run → Within other_bound (exact_sum yearly run) (sum (figures yearly (powers run) carry)))
