-- The list that the call gives is the year's, which passes question 9, alone and with those of the next years; so nothing that is given it
-- is refused by that. Assumes nothing.
use Rattle.refusal.specs.Questions.{answered}
use Rattle.std.specs.Prelude.{Ok, Err}
use mathlib.Core.Path.{◌≡◌, refl, sym, subst}
use mathlib.Core.List.{List}
use Prim.Native.Nat.{ℕ}
use lib.Dec.{eqb}
use lib.ListN.{length, drop}
use lib.Seq.{take_at}
use borrow.Author.Tests.{eq-eqb}
use Rattle.refusal.specs.Questions.{Verdict}
use Rattle.refusal.specs.Questions.{Pass}
use Rattle.refusal.specs.Questions.{refusal_number}
use Rattle.refusal.proofs.Questions.{then-first, number-above-0}
use Rattle.calendar_holidays.specs.Holidays.{holidays_question}
use Rattle.calendar_movable_days.specs.Inside.{InSpan}
use Rattle.calendar_public_holidays.specs.YearHolidays.{year_holidays, lists_from}
use Rattle.calendar_public_holidays.proofs.InOrder.{contradiction}
use Rattle.calendar_public_holidays_laws.proofs.Question.{list-passes, joined-pass}
use Rattle.call_holidays.specs.Holidays.{holidays_check, holidays_answer, list_after, reported}
use Rattle.call_holidays.proofs.Questions.{year-passed}
use Rattle.call_request.specs.Request.{Request, series, request_check, days_in}
use Rattle.call_expand.specs.Expanding.{expand_check}
use Rattle.call_deliveries.specs.Deliveries.{deliveries_check}
use Rattle.call_page.specs.Page.{page_check}
use Rattle.program_input.specs.Input.{request_in}
use Rattle.claim_holidays.specs.ListGiven.{NotByNine, GoodList, ListGiven, JoinedGiven}
use Rattle.claim_holidays.proofs.NotByNine.{
  passed,
  both,
  whole-input,
  file-and-group,
  date-question,
  period,
  yearly-use,
  use-and-carry,
  output,
  readings,
  first-dates,
  page-room,
}

-- a list that passes question 9
module _ (given : List ℕ) (p : holidays_question given ≡ Pass) where
  question-9 : NotByNine (holidays_question given)
  question-9 = subst NotByNine (sym p) passed

  of-list : {list : List ℕ} → list ≡ given → NotByNine (holidays_question list)
  of-list same = subst (λ list. NotByNine (holidays_question list)) (sym same) question-9

  request-questions : (q : Request) → q.holidays ≡ given → NotByNine (request_check q)
  request-questions q same =
      both _ _ (file-and-group q.file q.group) (both _ _ (period q.first q.last) (both _ _ (of-list same) (use-and-carry q.yearly q.carry)))

  good-list : GoodList given
  unfolding expand_check deliveries_check page_check
  good-list =
      record {
        passes = p;
        expanding = λ q same. both _ _ (request-questions q same) (output (length (series q)) (length q.output));
        deliveries = λ d same.
            both _ _ (file-and-group d.file d.group)
            (both _ _ (period d.first d.last)
            (both _ _ (readings (length d.starts) (length d.metered))
            (both _ _ (first-dates d.first d.last d.starts)
            (both _ _ (of-list same)
            (both _ _ (yearly-use d.yearly) (output (length d.starts) (length d.output)))))));
        page = λ q same. both _ _ (request-questions q same) (page-room (days_in q) (length q.output));
        program = λ input same. both _ _ (whole-input input) (request-questions (request_in input) same);
        enquiry = λ date. both _ _ (date-question date 0) question-9;
      }

-- what a reported 0 tells
accepted : (v : Verdict) (count : ℕ) → (reported (answered v count)).number ≡ 0 → v ≡ Pass
accepted (Ok _) count h = refl
accepted (Err r) count h = contradiction (eqb (refusal_number r) 0) (eqb (refusal_number r) 0) refl (eq-eqb (refusal_number r) 0 h) (number-above-0 r)

pub list-given : ListGiven
unfolding ListGiven holidays_check holidays_answer list_after
list-given year choice lent h =
    let pass : holidays_check year choice (length lent) ≡ Pass = accepted (holidays_check year choice (length lent)) (length (year_holidays year choice)) h in
    let span : InSpan year = year-passed year (then-first _ _ pass) in (
      rw pass (take_at (year_holidays year choice) (drop (length (year_holidays year choice)) lent) (length (year_holidays year choice)) refl),
      good-list (year_holidays year choice) (list-passes year choice span),
    )

pub joined-given : JoinedGiven
unfolding JoinedGiven
joined-given year n choice a b h = good-list (lists_from year n choice) (joined-pass year n choice a b h)
