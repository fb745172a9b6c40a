-- The days of a year that are wanted do stand in the calendar's order. Assumes nothing.
use mathlib.Core.Bool.{Bool, true, false, cond, ◌&&◌}
use mathlib.Core.List.{List, [], ◌∷◌}
use Prim.Native.Nat.{ℕ, ◌≤◌, ◌/◌, ◌%◌}
use native.Mathlib.Omega.{arith}
use lib.Dec.{T, leb, eqb, leb→le}
use mir.Facts.{and_yes}
use Rattle.std.specs.Prelude.{Option, None, Some}
use Rattle.calendar_dates.specs.Dates.{leap_days, month_length, days_of_months, day_of_year, days_of_years, day_number, weekday_of, next_day, days_later}
use Rattle.calendar_movable_days.specs.Counted.{march_day, days_until}
use Rattle.calendar_movable_days.specs.Easter.{golden_number, century, solar_correction, lunar_correction, cycle_epact, epact, paschal_full_moon, easter_day}
use Rattle.calendar_movable_days.specs.Inside.{InSpan}
use Rattle.calendar_movable_days.proofs.Years.{in-year}
use Rattle.lists.specs.Lists.{Each}
use Rattle.calendar_year_list.specs.Inside.{calendar_days, wanted, NotFalling}

-- no date is later than the next one
abbrev rises : List ℕ → Bool
rises [] = true
rises (date ∷ []) = true
rises (date ∷ next ∷ dates) = leb date next && rises (next ∷ dates)

not-falling : (dates : List ℕ) → T (rises dates) → NotFalling dates
not-falling [] t = tt
not-falling (date ∷ []) t = (tt, tt)
not-falling (date ∷ next ∷ dates) t =
    let both = and_yes (leb date next) (rises (next ∷ dates)) t in
    let rest = not-falling (next ∷ dates) both.1 in
    ((leb→le date next both.0, all_later dates rest.0 (leb→le date next both.0)), rest)
  where
    all_later : (dates : List ℕ) → Each (λ later. next ≤ later) dates → date ≤ next → Each (λ later. date ≤ later) dates
    all_later [] a h = tt
    all_later (later ∷ dates) a h = (omega (arith, a.0), all_later dates a.1 h)

-- the days at which a flag is set
abbrev picked : List Bool → List ℕ → List (Option ℕ)
picked [] dates = []
picked (flag ∷ flags) [] = []
picked (flag ∷ flags) (date ∷ dates) = cond flag (Some date) None ∷ picked flags dates

picked-later : (first : ℕ) (flags : List Bool) (dates : List ℕ) → Each (λ later. first ≤ later) dates →
    Each (λ later. first ≤ later) (wanted (picked flags dates))
picked-later first [] dates a = tt
picked-later first (flag ∷ flags) [] a = tt
picked-later first (true ∷ flags) (date ∷ dates) a = (a.0, picked-later first flags dates a.1)
picked-later first (false ∷ flags) (date ∷ dates) a = picked-later first flags dates a.1

picked-not-falling : (flags : List Bool) (dates : List ℕ) → NotFalling dates → NotFalling (wanted (picked flags dates))
picked-not-falling [] dates n = tt
picked-not-falling (flag ∷ flags) [] n = tt
picked-not-falling (true ∷ flags) (date ∷ dates) n = (picked-later date flags dates n.0, picked-not-falling flags dates n.1)
picked-not-falling (false ∷ flags) (date ∷ dates) n = picked-not-falling flags dates n.1

abbrev flags : ℕ → List Bool
flags choice =
    true ∷ eqb (choice % 2) 1 ∷ true ∷ true ∷ true ∷ true ∷ true ∷ true ∷ true ∷ eqb (choice / 2 % 2) 1 ∷ eqb (choice / 4 % 2) 1 ∷ true
    ∷ eqb (choice / 8 % 2) 1 ∷ eqb (choice / 16 % 2) 1 ∷ eqb (choice / 32 % 2) 1 ∷ true ∷ true ∷ []

-- all seventeen
abbrev all_days : ℕ → List ℕ
all_days year = wanted (calendar_days year 63)

pub calendar_order : (year choice : ℕ) → InSpan year → NotFalling (wanted (calendar_days year choice))
unfolding leap_days month_length days_of_months day_of_year days_of_years day_number weekday_of next_day days_later golden_number century solar_correction lunar_correction cycle_epact epact paschal_full_moon march_day days_until easter_day calendar_days
calendar_order year choice s =
    picked-not-falling (flags choice) (all_days year) (not-falling (all_days year) (in-year (λ y. rises (all_days y)) tt year s))
