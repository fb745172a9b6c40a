-- What each way through the call comes to, and that the differences worked out are those that are defined. Assumes nothing.
use Rattle.std.proofs.Common.{◌≡◌, refl, sym, ◌∙◌, ap, ℕ, suc, ℤ, ◌≤◌, List, [], ◌∷◌, ◌++◌, length, map, drop, Err, arith}
use borrow.Author.Tests.{leb-true}
use Rattle.refusal.specs.declared.Refusal.{Refusal}
use Rattle.refusal.specs.declared.Refusal.TheVariants.{BadUse}
use Rattle.refusal.specs.Questions.{Verdict, Pass, reported, ◌then◌}
use Rattle.refusal.proofs.Questions.{refused-second, passed-second, then-first, then_next, ask-passed, room-passed}
use Rattle.calendar_holidays.specs.Holidays.{holidays_question}
use Rattle.calendar_dates.specs.Dates.{date_of}
use Rattle.calendar_period.specs.Period.{period_check, period_days}
use Rattle.calendar_period.proofs.Periods.{Period, period-passed}
use Rattle.calendar_reading_periods.specs.ReadingPeriods.{readings_question, first_dates_question, ReadingPeriod, end_of, reading_periods}
use Rattle.calendar_reading_periods.specs.Inside.{periods_of}
use Rattle.calendar_reading_periods.proofs.ReadingPeriods.{Counted, counted}
use Rattle.carry.specs.Carry.{largest_use}
use Rattle.call_request.specs.Request.{Request, basis_of, series, use_question, ahead_of_period}
use Rattle.call_request.proofs.Sound.{Sound, passes}
use Rattle.call_open.specs.declared.Opening.{Opening}
use Rattle.call_open.specs.Inside.{opening}
use Rattle.call_open.proofs.Given.{OpenedFor, opened-for}
use Rattle.call_expand.specs.Expanding.{totals}
use Rattle.call_deliveries.specs.Deliveries.{Deliveries, whole_span, of_period, carried_through, difference, differences_of, differences, deliveries_check, output_after, Delivers, behind_span}
use Rattle.call_deliveries.specs.Inside.{differences_from}
use Rattle.call_deliveries.proofs.Filling.{length-differences}

-- as many periods as first dates
pub length-periods : (last : ℕ) (starts : List ℕ) → length (periods_of last starts) ≡ length starts
length-periods last [] = refl
length-periods last (start ∷ starts) = ap suc (length-periods last starts)

-- the differences of a request's periods
pub same-differences : (q : Request) (last : ℕ) (metered starts : List ℕ) (carry : ℕ) →
    differences_from (basis_of q) q.yearly metered (periods_of last starts) carry ≡ differences_of metered (carried_through q (reading_periods last starts) carry)
unfolding differences_from differences_of carried_through reading_periods series
same-differences q last [] starts carry = refl
same-differences q last (kWh ∷ metered) [] carry = refl
same-differences q last (kWh ∷ metered) (start ∷ starts) carry =
    let this = of_period q (record { first = start; last = end_of last start starts }) carry in
    ap (λ (zs : List ℤ). difference kWh (totals this).total ∷ zs) (same-differences q last metered starts (totals this).carry)

-- the same of any periods
pub any-differences : (q : Request) (metered : List ℕ) (periods : List ReadingPeriod) (carry : ℕ) →
    differences_from (basis_of q) q.yearly metered (map (λ p. period_days (date_of p.first) (date_of p.last)) periods) carry
    ≡ differences_of metered (carried_through q periods carry)
unfolding differences_from differences_of carried_through series
any-differences q [] periods carry = refl
any-differences q (kWh ∷ metered) [] carry = refl
any-differences q (kWh ∷ metered) (p ∷ periods) carry =
    let this = of_period q p carry in
    ap (λ (zs : List ℤ). difference kWh (totals this).total ∷ zs) (any-differences q metered periods (totals this).carry)

-- what is known where every question passed
pub record Accepted (d : Deliveries) : Type 0 where
  pub ahead : ahead_of_period d.file d.group ≡ Pass
  pub period : Period d.first d.last
  pub counted : Counted (length d.starts) (length d.metered)
  pub dates : first_dates_question d.first d.last d.starts ≡ Pass
  pub holidays : holidays_question d.holidays ≡ Pass
  pub yearly : d.yearly ≤ largest_use
  pub room : length d.starts ≤ length d.output

module _ (d : Deliveries) where
  -- questions 1 to 8, and those behind the span
  abbrev pub span : Verdict
  span = ahead_of_period d.file d.group then period_check d.first d.last

  abbrev pub behind : Verdict
  behind = behind_span d.first d.last d.starts (length d.metered) d.holidays d.yearly (length d.output)

  pub all-passed : span ≡ Pass → behind ≡ Pass → deliveries_check d ≡ Pass
  unfolding deliveries_check
  all-passed s b = passed-second _ _ _ s ∙ b

  pub sound : deliveries_check d ≡ Pass → Accepted d
  unfolding deliveries_check use_question
  sound h =
      let to-8 = then_next (ahead_of_period d.file d.group) _ h in
      let to-17 = then_next (period_check d.first d.last) _ to-8 in
      let to-18 = then_next (readings_question (length d.starts) (length d.metered)) _ to-17 in
      let to-9 = then_next (first_dates_question d.first d.last d.starts) _ to-18 in
      let to-10 = then_next (holidays_question d.holidays) _ to-9 in
      record {
        ahead = then-first _ _ h;
        period = period-passed d.first d.last (then-first _ _ to-8);
        counted = counted _ _ (then-first _ _ to-17);
        dates = then-first _ _ to-18;
        holidays = then-first _ _ to-9;
        yearly = leb-true d.yearly largest_use (ask-passed _ BadUse (then-first _ _ to-10));
        room = room-passed _ _ (then_next (use_question d.yearly) _ to-10);
      }

  pub accepted : span ≡ Pass → behind ≡ Pass → Accepted d
  accepted s b = sound (all-passed s b)

  -- the whole span, begun with carry 0, and opened
  pub whole-sound : Accepted d → Sound (whole_span d)
  whole-sound s = record { file = s.ahead; period = s.period; holidays = s.holidays; yearly = s.yearly; carry = omega arith }

  pub span-opened : {o : Opening} → Accepted d → o ≡ opening (whole_span d) → OpenedFor (whole_span d) o
  span-opened s e = opened-for (whole_span d) (rw (passes (whole_span d) (whole-sound s), e) refl)

  -- a difference for each period
  pub one-per-period : length d.metered ≡ length d.starts → length (differences d) ≡ length d.starts
  one-per-period same =
      sym (ap length (same-differences (whole_span d) d.last d.metered d.starts 0))
      ∙ length-differences (basis_of (whole_span d)) d.yearly d.metered (periods_of d.last d.starts) 0 (same ∙ sym (length-periods d.last d.starts))
      ∙ same

  -- refused by the file, the group or the span
  pub span-refused : {r : Refusal} {answer : Verdict} → answer ≡ Err r → span ≡ Err r → Delivers d answer d.output
  unfolding deliveries_check output_after
  span-refused {r} a e =
      let v : deliveries_check d ≡ Err r = refused-second (ahead_of_period d.file d.group) (period_check d.first d.last) behind e in
      rw a (record { answers = sym v; reports = ap reported (sym v); leaves = rw v })

  -- by a question behind the span
  pub behind-refused : {r : Refusal} {answer : Verdict} → answer ≡ Err r → span ≡ Pass → behind ≡ Err r → Delivers d answer d.output
  unfolding deliveries_check output_after
  behind-refused {r} a s e =
      let v : deliveries_check d ≡ Err r = passed-second (ahead_of_period d.file d.group) (period_check d.first d.last) behind s ∙ e in
      rw a (record { answers = sym v; reports = ap reported (sym v); leaves = rw v })

  -- by none
  pub delivered : {after : List ℤ} → span ≡ Pass → behind ≡ Pass →
      after ≡ differences_from (basis_of (whole_span d)) d.yearly d.metered (periods_of d.last d.starts) 0 ++ drop (length d.metered) d.output →
      Delivers d Pass after
  unfolding output_after
  delivered {after} s b h =
      let all = all-passed s b in
      let same = (sound all).counted.same in
      record {
        answers = sym all;
        reports = ap reported (sym all);
        leaves = rw (all, one-per-period same) (rw (same-differences (whole_span d) d.last d.metered d.starts 0, same) at h);
      }
