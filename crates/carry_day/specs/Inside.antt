-- What one day's figures come to, and a day after the clock change as two ranges of its positions. No definition of document 01.
use Rattle.std.specs.Prelude.{◌≡◌, List, ◌++◌, ℕ, drop}
use Rattle.lists.specs.Lists.{sum}
use Rattle.calendar_days.specs.declared.Clock.{Clock}
use Rattle.calendar_days.specs.declared.Clock.TheVariants.{Unchanged, Forward, Back}
use Rattle.calendar_days.specs.Days.{positions, value_count_under}
use Rattle.carry.specs.Carry.{figures, last_carry}
use Rattle.carry_quotients.specs.declared.Carried.{Carried}

-- the figures of the day's positions after the clock change, stored at the start of the output, and what they come to
pub record DayCarried (powers : List ℕ) (clock : Clock) (yearly carry : ℕ) (before : List ℕ) (r : Carried) (after : List ℕ) : Type 0 where
  pub figures_stored : after ≡ figures yearly (positions clock powers) carry ++ drop (value_count_under clock) before
  pub total_is : r.total ≡ sum (figures yearly (positions clock powers) carry)
  pub carry_is : r.carry ≡ last_carry yearly (positions clock powers) carry

-- the first range is [0, first_end), the second [second_start, 96)
abbrev pub first_end : Clock → ℕ
first_end Unchanged = 96
first_end Forward = 8
first_end Back = 12

abbrev pub second_start : Clock → ℕ
second_start Unchanged = 96
second_start Forward = 12
second_start Back = 8
