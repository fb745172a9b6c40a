-- Document 01: "A day enquiry takes a date and a list and gives weekday (1 Monday to 7 Sunday), t, season, day type (1 weekday,
-- 2 Saturday, 3 Sunday) and value count."
use Rattle.std.specs.Prelude.{List, ◌∷◌, ◌++◌, decimal, ℕ, Result, Ok, Err}
use Rattle.refusal.specs.declared.Refusal.{Refusal}
use Rattle.refusal.specs.Questions.{Verdict, refusal_number, refusal_place, ◌then◌, answered}
use Rattle.calendar_dates.specs.declared.Date.{Date}
use Rattle.calendar_dates.specs.Dates.{date_of, day_of_year, weekday_of}
use Rattle.calendar_holidays.specs.Holidays.{holidays_question}
use Rattle.calendar_days.specs.Days.{season_letter, season_digit, day_type_digit, season, day_type, value_count}
use Rattle.calendar_period.specs.Period.{date_question}
use Rattle.call_day.specs.declared.Day.{Day}
use Rattle.call_day.specs.declared.DayReport.{DayReport}

-- what the enquiry says of a date
abbrev pub describe : Date → List ℕ → Day
describe d holidays =
    record {
      weekday = weekday_of d;
      t = day_of_year d;
      season = season d;
      day_type = day_type d holidays;
      value_count = value_count d;
    }

-- what a day's `Display` prints: weekday, t, season letter with day digit, and value count, a space (code 32) between them
abbrev pub day_display : Day → List ℕ
day_display day =
    decimal day.weekday
    ++ (32 ∷ (decimal day.t
    ++ (32 ∷ season_letter day.season ∷ (decimal (day_type_digit day.day_type)
    ++ (32 ∷ decimal day.value_count)))))

-- "the day enquiry 7 and 9"
abbrev pub day_check : ℕ → List ℕ → Verdict
day_check date holidays = date_question date 0 then holidays_question holidays

-- what the day enquiry answers, or the first question that did not pass
abbrev pub DayAnswer : Type 0
DayAnswer = Result Day Refusal

unfoldable pub day_enquiry : ℕ → List ℕ → DayAnswer
day_enquiry date holidays = answered (day_check date holidays) (describe (date_of date) holidays)

-- the numbers for each case of the answer: an accepted enquiry has number and place 0
abbrev pub reported_day : Day → DayReport
reported_day day =
    record {
      number = 0;
      place = 0;
      weekday = day.weekday;
      t = day.t;
      season = season_digit day.season;
      day_type = day_type_digit day.day_type;
      value_count = day.value_count;
    }

-- "A refusal gives number, place and zeros elsewhere"
abbrev pub reported_refusal : Refusal → DayReport
reported_refusal r =
    record { number = refusal_number r; place = refusal_place r; weekday = 0; t = 0; season = 0; day_type = 0; value_count = 0 }

abbrev pub reported : DayAnswer → DayReport
reported (Ok day) = reported_day day
reported (Err r) = reported_refusal r
