-- Document 02, (d): which dates have which season, how many days of a year, and that no date's season changed.
use Rattle.std.specs.Prelude.{◌≡◌, true, cond, ◌&&◌, ◌||◌, ◌⊎◌, ℕ, zero, suc, ◌+◌, ◌*◌, ◌≤◌, leb}
use Rattle.calendar_dates.specs.declared.Date.{Date}
use Rattle.calendar_dates.specs.Dates.{leap_days, is_date, day_number, next_day}
use Rattle.calendar_days.specs.declared.Season.{Season}
use Rattle.calendar_days.specs.declared.Season.TheVariants.{Winter, Summer, Transition}
use Rattle.calendar_days.specs.Days.{season}

-- the season as it was defined before the request, by the number mmdd
unfoldable pub earlier_season : Date → Season
earlier_season d =
    let mmdd = d.month * 100 + d.day in
    cond (leb 1101 mmdd || leb mmdd 320) Winter
    (cond (leb 515 mmdd && leb mmdd 914) Summer Transition)

-- a date from one day of its year to another, counted in days, both ends included; day before month, as source document 000 writes them
pub record FromTo (first_day first_month last_day last_month : ℕ) (d : Date) : Type 0 where
  pub not_before : day_number (record { year = d.year; month = first_month; day = first_day }) ≤ day_number d
  pub not_after : day_number d ≤ day_number (record { year = d.year; month = last_month; day = last_day })

-- "Winter: 1.11.-20.03.", over New Year
abbrev pub InWinter : Date → Type 0
InWinter d = FromTo 1 11 31 12 d ⊎ FromTo 1 1 20 3 d

-- "Sommer: 15.05.-14.09."
abbrev pub InSummer : Date → Type 0
InSummer d = FromTo 15 5 14 9 d

-- "Übergang: 21.03.-14.05. bzw. 15.09.-31.10."
abbrev pub InTransition : Date → Type 0
InTransition d = FromTo 21 3 14 5 d ⊎ FromTo 15 9 31 10 d

-- each holds if the other does
abbrev pub Exactly : Type 0 → Type 0 → Type 0
Exactly A B = (A → B) × (B → A)

-- the season of a date
pub record SeasonFacts (d : Date) : Type 0 where
  pub is_winter : Exactly (season d ≡ Winter) (InWinter d)
  pub is_summer : Exactly (season d ≡ Summer) (InSummer d)
  -- "what is left for transition is exactly 21 March to 14 May and 15 September to 31 October"
  pub is_transition : Exactly (season d ≡ Transition) (InTransition d)
  -- "every answer stays as it was"
  pub same_as_before : season d ≡ earlier_season d

-- how many days have each season
pub record SeasonDays : Type 0 where
  pub winter : ℕ
  pub summer : ℕ
  pub transition : ℕ

unfoldable pub with_day : Season → SeasonDays → SeasonDays
with_day Winter n = record { winter = n.winter + 1; summer = n.summer; transition = n.transition }
with_day Summer n = record { winter = n.winter; summer = n.summer + 1; transition = n.transition }
with_day Transition n = record { winter = n.winter; summer = n.summer; transition = n.transition + 1 }

-- of n days from a date on
unfoldable pub days_by_season : ℕ → Date → SeasonDays
days_by_season zero d = record { winter = 0; summer = 0; transition = 0 }
days_by_season (suc n) d = with_day (season d) (days_by_season n (next_day d))

-- of the 365 or 366 days of a year
abbrev pub YearHas : (year winter summer transition : ℕ) → Type 0
YearHas year winter summer transition =
    days_by_season (365 + leap_days year) (record { year = year; month = 1; day = 1 }) ≡ record { winter = winter; summer = summer; transition = transition }

-- the theorem, of every date of the span, and of every year by the span's rule for leap years. Proved in proofs/Seasons.antt.
pub record SeasonsSettled : Type 0 where
  pub dates : (d : Date) → is_date d ≡ true → SeasonFacts d
  pub years : (year : ℕ) → YearHas year (140 + leap_days year) 123 102
  -- a common and a leap year
  pub year_1999 : YearHas 1999 140 123 102
  pub year_2000 : YearHas 2000 141 123 102
