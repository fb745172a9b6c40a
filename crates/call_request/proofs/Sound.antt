-- What an accepted request is known to be, question by question, that such a request passes, and how long its series is. Assumes nothing.
use mathlib.Core.Path.{◌≡◌, ◌∙◌}
use Prim.Native.Nat.{◌≤◌}
use lib.ListN.{length, length-map}
use borrow.Author.Tests.{le-leb, leb-true}
use Rattle.refusal.specs.Questions.{Pass}
use Rattle.refusal.specs.declared.Refusal.TheVariants.{BadUse, BadCarry}
use Rattle.refusal.proofs.Questions.{ask-yes, then-pass, ask-passed, then-first, then_next}
use Rattle.calendar_dates.specs.Dates.{date_of}
use Rattle.calendar_holidays.specs.Holidays.{holidays_question}
use Rattle.calendar_period.specs.Period.{period_check, value_count_of_days}
use Rattle.calendar_period.proofs.Periods.{Period, period-passed, period-passes}
use Rattle.file_layout.specs.Header.{layout_of}
use Rattle.file_group.specs.Group.{check}
use Rattle.file_group.proofs.Group.{table-length}
use Rattle.carry.specs.Carry.{largest_use, largest_carry}
use Rattle.carry.specs.Energy.{powers}
use Rattle.carry.proofs.Carry.{length-figures}
use Rattle.series.proofs.Series.{length-quarters}
use Rattle.call_request.specs.Request.{Request, days_in, basis_of, quarters, series, use_question, carry_question, request_check}

-- questions 1 to 11 passed
pub record Sound (q : Request) : Type 0 where
  pub file : check q.file q.group ≡ Pass
  pub period : Period q.first q.last
  pub holidays : holidays_question q.holidays ≡ Pass
  pub yearly : q.yearly ≤ largest_use
  pub carry : q.carry ≤ largest_carry

module _ (q : Request) where
  pub sound : request_check q ≡ Pass → Sound q
  unfolding use_question carry_question
  sound h =
      let to-8 = then_next (check q.file q.group) _ h in
      let to-9 = then_next (period_check q.first q.last) _ to-8 in
      let to-10 = then_next (holidays_question q.holidays) _ to-9 in
      let to-11 = then_next (use_question q.yearly) _ to-10 in
      record {
        file = then-first _ _ h;
        period = period-passed q.first q.last (then-first _ _ to-8);
        holidays = then-first _ _ to-9;
        yearly = leb-true q.yearly largest_use (ask-passed _ BadUse (then-first _ _ to-10));
        carry = leb-true q.carry largest_carry (ask-passed _ BadCarry to-11);
      }

  pub passes : Sound q → request_check q ≡ Pass
  unfolding use_question carry_question
  passes s =
      then-pass _ s.file ∙ then-pass _ (period-passes q.first q.last s.period)
      ∙ then-pass _ s.holidays
      ∙ then-pass _ (ask-yes BadUse (le-leb q.yearly largest_use s.yearly))
      ∙ ask-yes BadCarry (le-leb q.carry largest_carry s.carry)
  -- question 12 passed too

-- "entries needed"
module _ (q : Request) where
  pub series-length : length (series q) ≡ length (quarters q)
  unfolding series
  series-length = length-figures q.yearly (powers (quarters q)) q.carry ∙ length-map (quarters q) _

  pub entries-needed : length (series q) ≡ value_count_of_days (days_in q) (date_of q.first)
  unfolding layout_of
  entries-needed =
      series-length
      ∙ length-quarters (basis_of q) (days_in q) (date_of q.first) (table-length q.file q.group)
