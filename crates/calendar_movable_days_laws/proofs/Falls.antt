-- Where Easter and the Day of Repentance fall: a test of each clause, computed year by year. Assumes nothing.
use mathlib.Core.Bool.{Bool}
use Prim.Native.Nat.{ℕ, suc, ◌+◌, ◌≤◌}
use lib.Dec.{T, leb, leb→le}
use Rattle.calendar_dates.specs.declared.Date.{Date}
use Rattle.calendar_dates.specs.Dates.{number_of, leap_days, month_length, days_of_months, day_of_year, days_of_years, day_number, weekday_of, next_day, days_later}
use Rattle.calendar_movable_days.specs.Counted.{march_day, days_until}
use Rattle.calendar_movable_days.specs.Easter.{golden_number, century, solar_correction, lunar_correction, cycle_epact, epact, paschal_full_moon, easter_day, full_moon, easter_sunday}
use Rattle.calendar_movable_days.specs.Inside.{InSpan}
use Rattle.calendar_movable_days.proofs.Years.{every, in-year, same}
use Rattle.calendar_movable_days.specs.Counted.{on}
use Rattle.calendar_movable_days.specs.Repentance.{repentance}
use Rattle.calendar_movable_days_laws.specs.Falls.{Between, EasterFalls, RepentanceFalls, DaysFall}

abbrev not-above : (ℕ → ℕ) → (ℕ → ℕ) → ℕ → Bool
not-above f g year = leb (f year) (g year)

at_most : (f g : ℕ → ℕ) → T (every (not-above f g) 104) → (year : ℕ) → InSpan year → f year ≤ g year
at_most f g t year s = leb→le (f year) (g year) (in-year (not-above f g) t year s)

between : (first d last : ℕ → Date) → T (every (not-above (λ y. number_of (first y)) (λ y. number_of (d y))) 104) →
    T (every (not-above (λ y. number_of (d y)) (λ y. number_of (last y))) 104) → (year : ℕ) → InSpan year → Between (first year) (d year) (last year)
between first d last a b year s =
    record { from = at_most (λ y. number_of (first y)) (λ y. number_of (d y)) a year s; to = at_most (λ y. number_of (d y)) (λ y. number_of (last y)) b year s }

easter-falls : (year : ℕ) → InSpan year → EasterFalls year
unfolding leap_days month_length days_of_months day_of_year days_of_years day_number weekday_of next_day days_later golden_number century solar_correction lunar_correction cycle_epact epact paschal_full_moon march_day days_until easter_day
easter-falls year s =
    record {
      full_moon_between = between (λ y. on y 3 21) full_moon (λ y. on y 4 18) tt tt year s;
      is_sunday = same (λ y. weekday_of (easter_sunday y)) (λ y. 7) tt year s;
      after = at_most (λ y. suc (day_number (full_moon y))) (λ y. day_number (easter_sunday y)) tt year s;
      within = at_most (λ y. day_number (easter_sunday y)) (λ y. day_number (full_moon y) + 7) tt year s;
      between = between (λ y. on y 3 22) easter_sunday (λ y. on y 4 25) tt tt year s;
    }

repentance-falls : (year : ℕ) → InSpan year → RepentanceFalls year
unfolding leap_days month_length days_of_months day_of_year days_of_years day_number weekday_of next_day days_later days_until
repentance-falls year s =
    record {
      is_wednesday = same (λ y. weekday_of (repentance y)) (λ y. 3) tt year s;
      between = between (λ y. on y 11 16) repentance (λ y. on y 11 22) tt tt year s;
    }

pub days-fall : DaysFall
unfolding DaysFall
days-fall year a b = let s : InSpan year = record { from = a; to = b } in (easter-falls year s, repentance-falls year s)
