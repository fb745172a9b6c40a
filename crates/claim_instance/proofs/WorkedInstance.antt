-- Document 01's listing cut in two: the answers by computation, and their joining by `successive-calls`. Assumes nothing.
use mathlib.Core.Path.{◌≡◌, refl, ◌∙◌}
use mathlib.Core.List.{List, [], ◌∷◌}
use Prim.Native.Nat.{ℕ, zero, suc, ◌+◌}
use native.Mathlib.Nat.{add-zero}
use native.Mathlib.Omega.{arith}
use lib.ListN.{length, drop}
use lib.Seq.{get_or-drop, drop-drop}
use lib.Dec.{leb}
use Rattle.refusal.specs.Questions.{answered}
use Rattle.lists.specs.Lists.{sum, Each, each_from}
use Rattle.big_endian.specs.BigEndian.{byte_at, word_at}
use Rattle.refusal.specs.declared.Refusal.TheVariants.{BadValue}
use Rattle.refusal.specs.Questions.{Pass}
use Rattle.refusal.specs.Questions.{Verdict}
use Rattle.refusal.specs.Questions.{◌then◌, ask_each, room_question}
use Rattle.refusal.proofs.Questions.{ask-yes, then-pass}
use Rattle.calendar_dates.specs.Dates.{leap_days, month_length, is_date, days_of_months, day_of_year, days_of_years, day_number, weekday_of, next_day}
use Rattle.calendar_holidays.specs.Holidays.{listed, holidays_question}
use Rattle.calendar_days.specs.Days.{from, to, season, is_eve, day_type_when, last_sunday, clock, positions}
use Rattle.calendar_period.specs.Period.{date_question, days_of, period_question}
use Rattle.file_layout.specs.Header.{layout_of, mark_question, version_question, length_question, header_check}
use Rattle.file_values.specs.Values.{value_question, profile_values_question}
use Rattle.file_check.specs.Check.{code_question, file_check}
use Rattle.file_group.specs.Group.{offset_among, group_question, check}
use Rattle.dynamisation.specs.Dynamisation.{X, F, Q}
use Rattle.carry.specs.Carry.{figures, last_carry}
use Rattle.day_powers.specs.DayTable.{day_values}
use Rattle.day_powers.specs.DayQuarters.{day_quarters}
use Rattle.series.specs.Series.{quarters_of_days}
use Rattle.call_request.specs.Request.{Request, series, use_question, carry_question, from_period_on}
use Rattle.call_expand.specs.Expanding.{expand_check, totals, expansion}
use Rattle.claim_successive.specs.SuccessiveCalls.{ByContract, accepted, Successive, SuccessiveCalls}
use Rattle.claim_successive.proofs.SuccessiveCalls.{successive-calls}
use Rattle.claim_instance.specs.WorkedInstance.{times, listing_file, call_for, saturday, between, sunday, whole, calls, common, WorkedInstance}

-- question 5 of a file that ends in values 1001, by turns
small-values : (file : List ℕ) (n at : ℕ) → drop at file ≡ times n (3 ∷ 233 ∷ []) → ask_each (value_question file) 2 n at ≡ Pass
unfolding ask_each value_question
small-values file zero at e = refl
small-values file (suc n) at e =
    let byte : (i : ℕ) → byte_at file (at + i) ≡ byte_at (times (suc n) (3 ∷ 233 ∷ [])) i = λ i. rw (← get_or-drop at file i 0, e) in
    let high : byte_at file at ≡ 3 = rw add-zero at (byte 0) in
    let low : byte_at file (at + 1) ≡ 233 = byte 1 in
    let rest : drop (at + 2) file ≡ times n (3 ∷ 233 ∷ []) = rw (← drop-drop 2 at file, e) in
    then-pass _ (ask-yes {b = leb (word_at file at) 20_000} (BadValue at) (rw (high, low))) ∙ small-values file n (at + 2) rest

-- the file passes questions 1 to 6
passes : check listing_file 1 ≡ Pass
unfolding ask_each layout_of mark_question version_question length_question header_check code_question profile_values_question file_check offset_among group_question
passes = then-pass _ (then-pass Pass (small-values listing_file 864 7 refl))

-- so the other questions decide
abbrev after_file : Request → Verdict
after_file q =
    from_period_on q.first q.last q.holidays q.yearly q.carry
    then room_question (length (series q)) (length q.output)

passed-file : (q : Request) → check q.file q.group ≡ Pass → expansion q ≡ answered (after_file q) (totals q)
unfolding expansion expand_check
passed-file q h = rw h

by-contract : (q : Request) → ByContract (call_for q)
by-contract q = record { answers = refl; leaves = refl }

pub worked-instance : WorkedInstance
unfolding ask_each layout_of offset_among each_from X F Q leap_days month_length is_date days_of_months day_of_year days_of_years day_number weekday_of next_day from to season listed is_eve day_type_when last_sunday clock positions date_question holidays_question days_of period_question day_values day_quarters quarters_of_days series figures last_carry sum use_question carry_question accepted Successive SuccessiveCalls
worked-instance =
    let first = passed-file saturday passes in
    let refused = passed-file between passes in
    let second = passed-file sunday passes in
    let both = passed-file whole passes in
    let contracts : Each ByContract calls = (by-contract saturday, (by-contract between, (by-contract sunday, tt))) in
    let successive : Successive common 0 (accepted calls) = rw (first, refused, second) (refl, refl, refl, (refl, refl, tt, tt)) in
    record {
      on_saturday = first;
      refused_between = refused;
      on_sunday = second;
      of_both = both;
      by_contract = contracts;
      successive = successive;
      same_as_whole =
          (successive-calls.0 common 0 calls (omega arith) contracts successive).whole (call_for whole) (by-contract whole)
          (rw (first, refused, second) (refl, refl, refl, refl))
          (rw both);
    }
