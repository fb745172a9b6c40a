-- Document 02, (b): what its second sentence says of every date, and what it changed of document 01's order.
use Rattle.std.specs.Prelude.{◌≡◌, true, false, cond, ◌||◌, List, ◌⊎◌, ℕ, ◌≤◌, eqb}
use Rattle.calendar_dates.specs.declared.Date.{Date}
use Rattle.calendar_dates.specs.Dates.{number_of, is_date, weekday_of}
use Rattle.calendar_holidays.specs.Holidays.{listed}
use Rattle.calendar_days.specs.declared.DayType.{DayType}
use Rattle.calendar_days.specs.declared.DayType.TheVariants.{Weekday, Saturday, Sunday}
use Rattle.calendar_days.specs.Days.{month_day, day_type}

-- the order that the request changed, as it was defined: "A Sunday is a Sunday. 24 and 31 December count as Saturday. A listed
-- holiday counts as Sunday. Then Saturdays and weekdays."
unfoldable pub earlier_day_type : Date → List ℕ → DayType
earlier_day_type d holidays =
    cond (eqb (weekday_of d) 7) Sunday
    (cond (eqb (month_day d) 1224 || eqb (month_day d) 1231) Saturday
    (cond (listed (number_of d) holidays) Sunday
    (cond (eqb (weekday_of d) 6) Saturday Weekday)))

-- "24 or 31 December"
abbrev pub Eve : Date → Type 0
Eve d = (d.month ≡ 12) × ((d.day ≡ 24) ⊎ (d.day ≡ 31))

-- a listed 24 or 31 December that is no Sunday
pub record ListedEve (d : Date) (holidays : List ℕ) : Type 0 where
  pub is_listed : listed (number_of d) holidays ≡ true
  pub eve : Eve d
  pub no_sunday : weekday_of d ≡ 7 → ⊥

-- the day type of a date, with a list
pub record DayTypeFacts (d : Date) (holidays : List ℕ) : Type 0 where
  -- "A Sunday is a Sunday."
  pub on_sunday : weekday_of d ≡ 7 → day_type d holidays ≡ Sunday
  -- "a listed date counts as Sunday even on 24 or 31 December"
  pub on_listed : listed (number_of d) holidays ≡ true → day_type d holidays ≡ Sunday
  -- "unlisted, those two still count as Saturday unless they are Sundays"
  pub on_eve : listed (number_of d) holidays ≡ false → Eve d → (weekday_of d ≡ 7 → ⊥) → day_type d holidays ≡ Saturday
  -- "Then Saturdays and weekdays."
  pub on_saturday : listed (number_of d) holidays ≡ false → weekday_of d ≡ 6 → day_type d holidays ≡ Saturday
  pub on_weekday : listed (number_of d) holidays ≡ false → (Eve d → ⊥) → weekday_of d ≤ 5 → day_type d holidays ≡ Weekday
  -- with the date unlisted nothing changed
  pub unlisted_same : listed (number_of d) holidays ≡ false → day_type d holidays ≡ earlier_day_type d holidays
  -- the two orders differ exactly on a listed 24 or 31 December that is no Sunday
  pub eve_differs : ListedEve d holidays → day_type d holidays ≡ earlier_day_type d holidays → ⊥
  pub else_same : (ListedEve d holidays → ⊥) → day_type d holidays ≡ earlier_day_type d holidays

-- for every date of the span and every list. Proved in proofs/DayTypes.antt.
unfoldable pub DayTypesSettled : Type 0
DayTypesSettled = (d : Date) (holidays : List ℕ) → is_date d ≡ true → DayTypeFacts d holidays
