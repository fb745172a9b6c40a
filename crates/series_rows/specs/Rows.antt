-- Document 01, "Then it expands day by day", and document 02, (e), "Each day of an expanding call": the figures of a day's line.
use Rattle.std.specs.Prelude.{List, [], ◌∷◌, ℕ, zero, suc, length}
use Rattle.lists.specs.Lists.{sum}
use Rattle.calendar_dates.specs.declared.Date.{Date}
use Rattle.calendar_dates.specs.Dates.{next_day}
use Rattle.carry.specs.Carry.{figures, last_carry}
use Rattle.carry.specs.Energy.{powers}
use Rattle.day_powers.specs.DayQuarters.{Basis, day_quarters}

-- a line's figures: "for each day: date .., count, Wh"
pub record Row : Type 0 where
  pub date : Date
  pub count : ℕ
  pub watt_hours : ℕ

abbrev pub row_of : Date → ℕ → ℕ → Row
row_of d count watt_hours = record { date = d; count = count; watt_hours = watt_hours }

-- the figures of one day, begun with a carry
abbrev pub day_figures : Basis → ℕ → Date → ℕ → List ℕ
day_figures b yearly d carry = figures yearly (powers (day_quarters b d)) carry

-- one day's row
abbrev pub day_row : Basis → ℕ → Date → ℕ → Row
day_row b yearly d carry = row_of d (length (day_figures b yearly d carry)) (sum (day_figures b yearly d carry))

-- "Then it expands day by day": the rows of n days from a date on, begun with a carry, of a group's values
unfoldable pub rows : Basis → ℕ → ℕ → Date → ℕ → List Row
rows b yearly zero d carry = []
rows b yearly (suc n) d carry =
    day_row b yearly d carry
    ∷ rows b yearly n (next_day d) (last_carry yearly (powers (day_quarters b d)) carry)
