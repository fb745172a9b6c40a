-- Document 01, "A period has 1 to 1,461 days, both end dates included", questions 7 and 8, and the values of days one after the other.
use Rattle.std.specs.Prelude.{◌&&◌, List, [], ◌∷◌, ℕ, zero, suc, ◌+◌, ◌-◌, leb}
use Rattle.refusal.specs.declared.Refusal.TheVariants.{BadDate, BadPeriod}
use Rattle.refusal.specs.Questions.{Verdict, ask, ◌then◌}
use Rattle.calendar_dates.specs.declared.Date.{Date}
use Rattle.calendar_dates.specs.Dates.{date_of, is_date, day_number, next_day}
use Rattle.calendar_days.specs.Days.{value_count}

-- 7. "Are the dates real and inside the span?", of one date, with its place
unfoldable pub date_question : ℕ → ℕ → Verdict
date_question date place = ask (is_date (date_of date)) (BadDate place)

-- the days from the first date to the last, "both end dates included"
unfoldable pub days_of : Date → Date → ℕ
days_of first last = day_number last + 1 - day_number first

-- 8. "Is the first date not after the last, and the period at most 1,461 days?"
unfoldable pub period_question : Date → Date → Verdict
period_question first last =
    ask (leb (day_number first) (day_number last) && leb (days_of first last) 1_461) BadPeriod

-- questions 7 and 8: "place 0 for the first date, else 1"
abbrev pub period_check : ℕ → ℕ → Verdict
period_check first last = date_question first 0 then date_question last 1 then period_question (date_of first) (date_of last)

-- a period's first day and the number of its days
pub record PeriodDays : Type 0 where
  pub first : Date
  pub days : ℕ

abbrev pub period_days : Date → Date → PeriodDays
period_days first last = record { first = first; days = days_of first last }

-- n dates, one after the other, from a date on
abbrev pub dates_from : ℕ → Date → List Date
dates_from zero d = []
dates_from (suc n) d = d ∷ dates_from n (next_day d)

-- the values of n days from a date on
unfoldable pub value_count_of_days : ℕ → Date → ℕ
value_count_of_days zero d = 0
value_count_of_days (suc n) d = value_count d + value_count_of_days n (next_day d)
