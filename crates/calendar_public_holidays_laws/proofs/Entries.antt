-- The dates of a year's list are dates of that year, and none is 24 or 31 December. Assumes nothing.
use mathlib.Core.Path.{◌≡◌, refl}
use mathlib.Core.Bool.{Bool, true, false, cond, not, ◌&&◌}
use mathlib.Core.List.{List, [], ◌∷◌, ◌++◌, map}
use Prim.Native.Nat.{ℕ, ◌/◌, ◌%◌}
use lib.Dec.{T, ltb, eqb, eqb→eq}
use mir.Facts.{and_yes}
use borrow.Author.Tests.{eqb-false}
use Rattle.lists.specs.Lists.{Each}
use Rattle.lists.proofs.Members.{each_append}
use Rattle.calendar_dates.specs.declared.Date.{Date}
use Rattle.calendar_dates.specs.Dates.{date_of, number_of, is_date, leap_days, month_length, days_of_months, day_of_year, days_of_years, day_number, weekday_of, next_day, days_later}
use Rattle.calendar_movable_days.specs.Counted.{march_day, days_until}
use Rattle.calendar_movable_days.specs.Easter.{golden_number, century, solar_correction, lunar_correction, cycle_epact, epact, paschal_full_moon, easter_day}
use Rattle.calendar_movable_days.specs.Inside.{InSpan}
use Rattle.calendar_movable_days.proofs.Years.{in-year}
use Rattle.calendar_public_holidays.specs.Days.{federal_days, regional_days}
use Rattle.calendar_public_holidays.specs.YearHolidays.{chosen, chosen_days, inserted, in_order, year_holidays}

-- neither 24 nor 31 December
pub record Other (n : ℕ) : Type 0 where
  pub no_christmas_eve : n % 10_000 ≡ 1224 → ⊥
  pub no_new_years_eve : n % 10_000 ≡ 1231 → ⊥

-- a number that is a date of the span, one of the year, and such another day
pub record DateOf (year n : ℕ) : Type 0 where
  pub is_real : is_date (date_of n) ≡ true
  pub of_year : n / 10_000 ≡ year
  pub other : Other n

-- Every day of a year is one: computed year by year.
test : ℕ → ℕ → Bool
test year n = is_date (date_of n) && eqb (n / 10_000) year && (not (eqb (n % 10_000) 1224) && not (eqb (n % 10_000) 1231))

all : ℕ → List Date → Bool
all year [] = true
all year (d ∷ days) = test year (number_of d) && all year days

module _ (year : ℕ) where
  abbrev OnDate : Date → Type 0
  OnDate d = DateOf year (number_of d)

  tested : (n : ℕ) → T (test year n) → DateOf year n
  unfolding test
  tested n t =
      let real = is_date (date_of n) in
      let its-year = eqb (n / 10_000) year in
      let christmas = eqb (n % 10_000) 1224 in
      let new-year = eqb (n % 10_000) 1231 in
      let parts = and_yes (real && its-year) (not christmas && not new-year) t in
      let date = and_yes real its-year parts.0 in
      let eves = and_yes (not christmas) (not new-year) parts.1 in
      record {
        is_real = holds real date.0;
        of_year = eqb→eq (n / 10_000) year date.1;
        other =
            record {
              no_christmas_eve = eqb-false (n % 10_000) 1224 (fails christmas eves.0);
              no_new_years_eve = eqb-false (n % 10_000) 1231 (fails new-year eves.1);
            };
      }
    where
      holds : (b : Bool) → T b → b ≡ true
      holds true t = refl
      holds false t = absurd t

      fails : (b : Bool) → T (not b) → b ≡ false
      fails true t = absurd t
      fails false t = refl

  each-tested : (days : List Date) → T (all year days) → Each OnDate days
  unfolding all
  each-tested [] t = tt
  each-tested (d ∷ days) t =
      let parts = and_yes (test year (number_of d)) (all year days) t in
      (tested (number_of d) parts.0, each-tested days parts.1)

federal-dates : (year : ℕ) → InSpan year → Each (OnDate year) (federal_days year)
unfolding is_date leap_days month_length days_of_months day_of_year days_of_years day_number weekday_of next_day days_later golden_number century solar_correction lunar_correction cycle_epact epact paschal_full_moon march_day days_until easter_day test all
federal-dates year s = each-tested year (federal_days year) (in-year (λ y. all y (federal_days y)) tt year s)

regional-dates : (year : ℕ) → InSpan year → Each (OnDate year) (regional_days year)
unfolding is_date leap_days month_length days_of_months day_of_year days_of_years day_number weekday_of next_day days_later golden_number century solar_correction lunar_correction cycle_epact epact paschal_full_moon march_day days_until easter_day test all
regional-dates year s = each-tested year (regional_days year) (in-year (λ y. all y (regional_days y)) tt year s)

-- so are the chosen ones, and those put in order
module _ (year : ℕ) where
  each_chosen : (bits : ℕ) (days : List Date) → Each (OnDate year) days → Each (OnDate year) (chosen bits days)
  unfolding chosen
  each_chosen bits [] e = tt
  each_chosen bits (d ∷ days) e = go (eqb (bits % 2) 1) (each_chosen (bits / 2) days e.1)
    where
      go : (b : Bool) → Each (OnDate year) (chosen (bits / 2) days) → Each (OnDate year) (cond b (d ∷ chosen (bits / 2) days) (chosen (bits / 2) days))
      go true rest = (e.0, rest)
      go false rest = rest

  each_number : (days : List Date) → Each (OnDate year) days → Each (DateOf year) (map number_of days)
  each_number [] e = tt
  each_number (d ∷ days) e = (e.0, each_number days e.1)

  each-inserted : (date : ℕ) (dates : List ℕ) → DateOf year date → Each (DateOf year) dates → Each (DateOf year) (inserted date dates)
  unfolding inserted
  each-inserted date [] d e = (d, tt)
  each-inserted date (next ∷ dates) d e = go (ltb date next) (eqb date next) (each-inserted date dates d e.1)
    where
      go : (p q : Bool) → Each (DateOf year) (inserted date dates) →
          Each (DateOf year) (cond p (date ∷ next ∷ dates) (cond q (next ∷ dates) (next ∷ inserted date dates)))
      go true q rest = (d, e)
      go false true rest = e
      go false false rest = (e.0, rest)

  each-in-order : (dates : List ℕ) → Each (DateOf year) dates → Each (DateOf year) (in_order dates)
  unfolding in_order
  each-in-order [] e = tt
  each-in-order (date ∷ dates) e = each-inserted date (in_order dates) e.0 (each-in-order dates e.1)

pub each-of-year : (year choice : ℕ) → InSpan year → Each (DateOf year) (year_holidays year choice)
unfolding year_holidays chosen_days
each-of-year year choice s =
    let days = federal_days year ++ chosen choice (regional_days year) in
    each-in-order year (chosen_days year choice)
    (each_number year days
    (each_append (OnDate year) (federal_days year) (chosen choice (regional_days year)) (federal-dates year s) (each_chosen year choice (regional_days year) (regional-dates year s))))

pub each-other : (year choice : ℕ) → InSpan year → Each Other (year_holidays year choice)
each-other year choice s = go (year_holidays year choice) (each-of-year year choice s)
  where
    go : (dates : List ℕ) → Each (DateOf year) dates → Each Other dates
    go [] e = tt
    go (n ∷ dates) e = (e.0.other, go dates e.1)
