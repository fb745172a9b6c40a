-- Document 02, (a): "the Day of Repentance is the Wednesday before 23 November".
use Rattle.std.specs.Prelude.{ℕ}
use Rattle.calendar_dates.specs.declared.Date.{Date}
use Rattle.calendar_dates.specs.Dates.{days_later}
use Rattle.calendar_movable_days.specs.Counted.{on, days_until}

-- of the seven days before it, 16 to 22 November, the one that is a Wednesday
abbrev pub repentance : ℕ → Date
repentance year = days_later (days_until 3 (on year 11 16)) (on year 11 16)
