-- What holds of every date of the span.
use Rattle.std.specs.Prelude.{◌≡◌, true, ℕ, ◌+◌, ◌≤◌, ◌<◌}
use Rattle.calendar_dates.specs.declared.Date.{Date}
use Rattle.calendar_dates.specs.Dates.{date_of, number_of, leap_days, is_date, day_of_year, day_number, next_day}

-- what holds of every date; and a lent number and its date are one another's. Proved in proofs/Dates.antt.
pub record DateFacts (d : Date) : Type 0 where
  pub from_one : 1 ≤ day_of_year d
  pub to_year_end : day_of_year d ≤ 365 + leap_days d.year
  pub numbered : date_of (number_of d) ≡ d
  -- the next day has the next day number and a later date, which is one of the span unless that is over
  pub next_counts : day_number (next_day d) ≡ day_number d + 1
  pub next_later : number_of d < number_of (next_day d)
  pub next_is_date : number_of d < 20991231 → is_date (next_day d) ≡ true

-- "1 January is day t = 1 and 31 December is 365 or 366."
pub record YearCounted (year : ℕ) : Type 0 where
  pub first : day_of_year (record { year = year; month = 1; day = 1 }) ≡ 1
  pub last : day_of_year (record { year = year; month = 12; day = 31 }) ≡ 365 + leap_days year

unfoldable pub DatesCounted : Type 0
DatesCounted = ((d : Date) → is_date d ≡ true → DateFacts d) × ((n : ℕ) → number_of (date_of n) ≡ n) × ((year : ℕ) → YearCounted year)
