-- Document 01, "Dynamisation" and "Series and carry": the quarter hours of one day, each with its value P, its day's X and its
-- power Q.
use Rattle.std.specs.Prelude.{List, map, ℕ, nat_abs}
use Rattle.calendar_dates.specs.declared.Date.{Date}
use Rattle.calendar_dates.specs.Dates.{day_of_year}
use Rattle.calendar_days.specs.Days.{clock, positions}
use Rattle.dynamisation.specs.Dynamisation.{X, F, Q}
use Rattle.carry.specs.Energy.{Quarter}
use Rattle.day_powers.specs.DayTable.{day_values}

-- P, X and Q of a group's value on the day t of the year; theorem `ExactX` (series_laws) says that nat_abs is X itself
abbrev pub quarter : ℕ → ℕ → ℕ → Quarter
quarter group t p = record { value = p; exact = nat_abs (X group t); power = Q p (F group t) }

-- what a day's quarter hours are made from: a group's 864 values, its code and the list of holidays
pub record Basis : Type 0 where
  pub values : List ℕ
  pub group : ℕ
  pub holidays : List ℕ

abbrev pub basis : List ℕ → ℕ → List ℕ → Basis
basis values group holidays = record { values = values; group = group; holidays = holidays }

-- "P and X are those of each quarter hour's own position and day, after the clock changes"
unfoldable pub day_quarters : Basis → Date → List Quarter
day_quarters b d = positions (clock d) (map (quarter b.group (day_of_year d)) (day_values b.values b.holidays d))
