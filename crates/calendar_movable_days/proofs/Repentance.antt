-- The formula for the Day of Repentance gives the Wednesday before 23 November in every year of the span: one computed test.
-- Assumes nothing.
use mathlib.Core.Path.{◌≡◌}
use Prim.Native.Nat.{ℕ, ◌+◌, ◌-◌, ◌*◌, ◌/◌, ◌%◌}
use Rattle.calendar_dates.specs.Dates.{number_of, leap_days, month_length, days_of_months, day_of_year, days_of_years, day_number, weekday_of, next_day, days_later}
use Rattle.calendar_movable_days.specs.Counted.{days_until}
use Rattle.calendar_movable_days.specs.Inside.{InSpan}
use Rattle.calendar_movable_days.proofs.Years.{same}
use Rattle.calendar_movable_days.specs.Repentance.{repentance}

abbrev pub formula : ℕ → ℕ
formula year = year * 10_000 + 1122 - (year + year / 4 + 6) % 7

pub formula-is-repentance : (year : ℕ) → InSpan year → formula year ≡ number_of (repentance year)
unfolding leap_days month_length days_of_months day_of_year days_of_years day_number weekday_of next_day days_later days_until
formula-is-repentance year s = same formula (λ y. number_of (repentance y)) tt year s
