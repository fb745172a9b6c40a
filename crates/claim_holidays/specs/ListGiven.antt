-- Document 02, (a): "Every list given passes question 9." So none of the calls that are given a list is refused by it:
-- expanding, the deliveries, the day page, the program and the day enquiry. Proved in proofs/ListGiven.antt.
use Rattle.std.specs.Prelude.{◌≡◌, List, ℕ, ◌+◌, ◌≤◌, length, take}
use Rattle.refusal.specs.Questions.{Verdict}
use Rattle.refusal.specs.Questions.{Pass}
use Rattle.refusal.specs.Questions.{number, ◌then◌}
use Rattle.calendar_holidays.specs.Holidays.{holidays_question}
use Rattle.calendar_public_holidays.specs.YearHolidays.{year_holidays, lists_from}
use Rattle.call_holidays.specs.declared.HolidaysReport.{HolidaysReport}
use Rattle.call_holidays.specs.Holidays.{holidays_answer, list_after, reported}
use Rattle.call_day.specs.Enquiry.{day_check}
use Rattle.call_request.specs.Request.{Request, request_check}
use Rattle.call_expand.specs.Expanding.{expand_check}
use Rattle.call_deliveries.specs.Deliveries.{Deliveries, deliveries_check}
use Rattle.call_page.specs.Page.{page_check}
use Rattle.program_input.specs.Input.{input_question, request_in}

-- a check is not refused by question 9
abbrev pub NotByNine : Verdict → Type 0
NotByNine v = number v ≡ 9 → ⊥

-- a list that passes question 9, so that nothing that is given it is refused by that
pub record GoodList (given : List ℕ) : Type 0 where
  pub passes : holidays_question given ≡ Pass
  pub expanding : (q : Request) → q.holidays ≡ given → NotByNine (expand_check q)
  pub deliveries : (d : Deliveries) → d.holidays ≡ given → NotByNine (deliveries_check d)
  pub page : (q : Request) → q.holidays ≡ given → NotByNine (page_check q)
  -- the check that `printed` has (program_text)
  pub program : (input : List ℕ) → (request_in input).holidays ≡ given → NotByNine (input_question input then request_check (request_in input))
  pub enquiry : (date : ℕ) → NotByNine (day_check date given)

-- what the call reports, for a lent list
abbrev pub report : ℕ → ℕ → List ℕ → HolidaysReport
report year choice lent = reported (holidays_answer year choice (length lent))

-- where it reports number 0, the first entries, as many as it reports, are the year's list, and a good one, whatever was lent
unfoldable pub ListGiven : Type 0
ListGiven =
    (year choice : ℕ) (lent : List ℕ) → (report year choice lent).number ≡ 0 →
    (take (report year choice lent).length (list_after year choice lent) ≡ year_holidays year choice) × GoodList (year_holidays year choice)

-- and so are the lists of up to 23 years with one choice, one behind the other, which have at most 391 dates
unfoldable pub JoinedGiven : Type 0
JoinedGiven = (year n choice : ℕ) → 1996 ≤ year → year + n ≤ 2100 → n ≤ 23 → GoodList (lists_from year n choice)
