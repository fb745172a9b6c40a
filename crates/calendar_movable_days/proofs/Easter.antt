-- The formula for Easter is the computus in every year of the span: one computed test. Assumes nothing.
use mathlib.Core.Path.{◌≡◌}
use Prim.Native.Nat.{ℕ, ◌+◌, ◌-◌, ◌*◌, ◌/◌, ◌%◌}
use Rattle.calendar_dates.specs.Dates.{leap_days, month_length, days_of_months, day_of_year, days_of_years, day_number, weekday_of, next_day, days_later}
use Rattle.calendar_movable_days.specs.Counted.{march_day, days_until}
use Rattle.calendar_movable_days.specs.Easter.{golden_number, century, solar_correction, lunar_correction, cycle_epact, epact, paschal_full_moon, easter_day}
use Rattle.calendar_movable_days.specs.Inside.{InSpan}
use Rattle.calendar_movable_days.proofs.Years.{same}

-- days from 21 March to the full moon, before the exceptions
abbrev behind : ℕ → ℕ
behind year = (19 * (year % 19) + 24) % 30

abbrev full_moon : ℕ → ℕ
full_moon year = 21 + behind year - (behind year + year % 19 / 11) / 29

abbrev pub formula : ℕ → ℕ
formula year = full_moon year + 7 - (year + year / 4 + full_moon year + 1) % 7

pub formula-is-easter : (year : ℕ) → InSpan year → formula year ≡ easter_day year
unfolding leap_days month_length days_of_months day_of_year days_of_years day_number weekday_of next_day days_later golden_number century solar_correction lunar_correction cycle_epact epact paschal_full_moon march_day days_until easter_day
formula-is-easter year s = same formula easter_day tt year s
