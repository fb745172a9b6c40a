-- Dates of a year by month and day, by the day of March, and by the weekday.
use Rattle.std.specs.Prelude.{ℕ, ◌+◌, ◌-◌, ◌%◌}
use Rattle.calendar_dates.specs.declared.Date.{Date}
use Rattle.calendar_dates.specs.Dates.{weekday_of, days_later}

-- a date of the year
abbrev pub on : ℕ → ℕ → ℕ → Date
on year month day = record { year = year; month = month; day = day }

-- a day of March, from 1 on, that is counted on over the month's end: day 32 is 1 April, day 62 is 1 May
unfoldable pub march_day : ℕ → ℕ → Date
march_day year day = days_later (day - 1) (on year 3 1)

-- how many days it is from a date to the first one from it on, itself included, that is a given weekday
unfoldable pub days_until : ℕ → Date → ℕ
days_until weekday d = (weekday + 7 - weekday_of d) % 7
