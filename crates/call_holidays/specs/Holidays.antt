-- Document 02, (a): what the call for a year's holidays answers, and what it leaves in the lent list, accepted and refused.
use Rattle.std.specs.Prelude.{◌&&◌, List, ℕ, leb, length, Result, Ok, Err}
use Rattle.refusal.specs.declared.Refusal.{Refusal}
use Rattle.refusal.specs.declared.Refusal.TheVariants.{BadYear, BadChoice, ShortList}
use Rattle.refusal.specs.Questions.{Verdict, refusal_number, refusal_place, answered}
use Rattle.refusal.specs.Questions.{ask, ◌then◌, lent_after}
use Rattle.calendar_public_holidays.specs.YearHolidays.{year_holidays}
use Rattle.call_holidays.specs.declared.HolidaysReport.{HolidaysReport}

-- "year outside the span 14"
unfoldable pub year_question : ℕ → Verdict
year_question year = ask (leb 1996 year && leb year 2099) BadYear

-- "choice above 63 15"
unfoldable pub choice_question : ℕ → Verdict
choice_question choice = ask (leb choice 63) BadChoice

-- "lent list shorter than needed 16, place = entries needed"
unfoldable pub list_question : ℕ → ℕ → Verdict
list_question needed room = ask (leb needed room) (ShortList needed)

-- "Asked in this order"
unfoldable pub holidays_check : ℕ → ℕ → ℕ → Verdict
holidays_check year choice room =
    year_question year then choice_question choice then list_question (length (year_holidays year choice)) room

-- what listing the holidays answers: how many dates were put at the start of the lent list, or the first question that did not pass
abbrev pub HolidaysAnswer : Type 0
HolidaysAnswer = Result ℕ Refusal

unfoldable pub holidays_answer : ℕ → ℕ → ℕ → HolidaysAnswer
holidays_answer year choice room = answered (holidays_check year choice room) (length (year_holidays year choice))

-- the lent list after the call
unfoldable pub list_after : ℕ → ℕ → List ℕ → List ℕ
list_after year choice list = lent_after (holidays_check year choice (length list)) (year_holidays year choice) list

-- the numbers for each case of the answer; "A refusal gives number, place and zeros elsewhere"
abbrev pub reported : HolidaysAnswer → HolidaysReport
reported (Ok count) = record { number = 0; place = 0; length = count }
reported (Err r) = record { number = refusal_number r; place = refusal_place r; length = 0 }
