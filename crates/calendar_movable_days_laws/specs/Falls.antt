-- Where Easter and the Day of Repentance fall, in every year of the span. Proved in proofs/Falls.antt.
use Rattle.std.specs.Prelude.{◌≡◌, ℕ, ◌+◌, ◌≤◌, ◌<◌}
use Rattle.calendar_dates.specs.declared.Date.{Date}
use Rattle.calendar_dates.specs.Dates.{number_of, day_number, weekday_of}
use Rattle.calendar_movable_days.specs.Counted.{on}
use Rattle.calendar_movable_days.specs.Easter.{full_moon, easter_sunday}
use Rattle.calendar_movable_days.specs.Repentance.{repentance}

-- a date from one date to another, both included
pub record Between (first d last : Date) : Type 0 where
  pub from : number_of first ≤ number_of d
  pub to : number_of d ≤ number_of last

-- "Easter is the Sunday after the paschal full moon": one to seven days after it, and never the full moon itself
pub record EasterFalls (year : ℕ) : Type 0 where
  pub full_moon_between : Between (on year 3 21) (full_moon year) (on year 4 18)
  pub is_sunday : weekday_of (easter_sunday year) ≡ 7
  pub after : day_number (full_moon year) < day_number (easter_sunday year)
  pub within : day_number (easter_sunday year) ≤ day_number (full_moon year) + 7
  pub between : Between (on year 3 22) (easter_sunday year) (on year 4 25)

-- "the Day of Repentance is the Wednesday before 23 November", never the 23rd itself
pub record RepentanceFalls (year : ℕ) : Type 0 where
  pub is_wednesday : weekday_of (repentance year) ≡ 3
  pub between : Between (on year 11 16) (repentance year) (on year 11 22)

unfoldable pub DaysFall : Type 0
DaysFall = (year : ℕ) → 1996 ≤ year → year ≤ 2099 → EasterFalls year × RepentanceFalls year
