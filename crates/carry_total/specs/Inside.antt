-- What a day's figures come to, where none is stored. No definition of document 01.
use Rattle.std.specs.Prelude.{◌≡◌, List, ℕ}
use Rattle.lists.specs.Lists.{sum}
use Rattle.calendar_days.specs.declared.Clock.{Clock}
use Rattle.calendar_days.specs.Days.{positions}
use Rattle.carry.specs.Carry.{figures, last_carry}
use Rattle.carry_quotients.specs.declared.Carried.{Carried}

-- the sum of the figures of the day's positions after the clock change, and the carry that they leave
pub record DayTotal (powers : List ℕ) (clock : Clock) (yearly carry : ℕ) (r : Carried) : Type 0 where
  pub total_is : r.total ≡ sum (figures yearly (positions clock powers) carry)
  pub carry_is : r.carry ≡ last_carry yearly (positions clock powers) carry
