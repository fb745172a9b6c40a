-- What storing a range's figures asks and comes to, and how the quotient of a growing sum grows. No definition of document 01.
use Rattle.std.specs.Prelude.{◌≡◌, List, [], ◌∷◌, ◌++◌, ℕ, ◌+◌, ◌-◌, ◌*◌, ◌/◌, ◌^◌, ◌≤◌, ◌<◌, length, drop, get_or}
use Rattle.lists.specs.Lists.{sum}
use Rattle.carry.specs.Carry.{largest_use, largest_carry, figures, last_carry}
use Rattle.carry_quotients.specs.declared.Carried.{Carried}

-- what is asked of a range: powers of at most 4,000 W (a factor is at most 2), "Yearly use A is in whole kWh, 0 to 1,000,000,000. The
-- carry is 0 to 39,999"
pub record SmallPowers (powers : List ℕ) (yearly carry : ℕ) : Type 0 where
  pub small : (i : ℕ) → get_or powers i 0 ≤ 40_000
  pub yearly_small : yearly ≤ largest_use
  pub in_range : carry ≤ largest_carry

-- the figures of some powers, stored at the start of the output, and what they come to
pub record RangeCarried (powers : List ℕ) (yearly carry : ℕ) (before : List ℕ) (r : Carried) (after : List ℕ) : Type 0 where
  pub figures_stored : after ≡ figures yearly powers carry ++ drop (length powers) before
  pub total_is : r.total ≡ sum (figures yearly powers carry)
  pub total_small : r.total ≤ 10 ^ 12
  pub carry_is : r.carry ≡ last_carry yearly powers carry

-- what each power, times a factor, adds to the quotient by `unit` of the sum so far
unfoldable pub growths : ℕ → ℕ → List ℕ → ℕ → List ℕ
growths unit factor [] sum = []
growths unit factor (power ∷ powers) sum =
    ((sum + power * factor) / unit - sum / unit) ∷ growths unit factor powers (sum + power * factor)

-- what is asked of them: a first sum whose quotient is 0, powers of at most 4,000 W, each growth in 32 bits, and the last sum in 64
pub record Growing (unit factor : ℕ) (powers : List ℕ) (first : ℕ) : Type 0 where
  pub none_yet : first < unit
  pub small : (i : ℕ) → get_or powers i 0 ≤ 40_000
  pub growth_small : 40_000 * factor ≤ unit * 4_294_967_295
  pub sum_small : first + length powers * (40_000 * factor) < 2 ^ 64
