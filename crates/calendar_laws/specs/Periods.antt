-- What holds of every period.
use Rattle.std.specs.Prelude.{◌≡◌, true, ◌-◌, ◌≤◌, ◌<◌}
use Rattle.calendar_dates.specs.declared.Date.{Date}
use Rattle.calendar_dates.specs.Dates.{number_of, is_date, day_number, days_later, AllDates}
use Rattle.calendar_period.specs.Period.{days_of}

-- dates have the order of their day numbers
pub record SameOrder (a b : Date) : Type 0 where
  pub by_day : number_of a < number_of b → day_number a < day_number b
  pub by_number : day_number a < day_number b → number_of a < number_of b

-- counted day by day, a period has only dates and ends on its last one
pub record DaysCounted (first last : Date) : Type 0 where
  pub dates : AllDates (days_of first last) first
  pub ends : days_later (days_of first last - 1) first ≡ last

-- the theorem. Proved in proofs/Order.antt and proofs/Periods.antt.
unfoldable pub PeriodsCounted : Type 0
PeriodsCounted =
    (first last : Date) → is_date first ≡ true → is_date last ≡ true →
    SameOrder first last × (day_number first ≤ day_number last → DaysCounted first last)
