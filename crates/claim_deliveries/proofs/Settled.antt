-- The parts put together. Assumes nothing.
use Rattle.std.specs.Prelude.{Ok, Err}
use mathlib.Core.Path.{◌≡◌, refl, sym, ◌∙◌, ap}
use mathlib.Core.List.{List, [], ◌∷◌}
use Prim.Native.Nat.{ℕ, ◌*◌}
use native.Mathlib.Omega.{arith}
use lib.IntN.{ℤ, pos, ◌-ℤ◌}
use lib.ListN.{length, length-map}
use borrow.Author.Tests.{eq-eqb}
use Rattle.lists.specs.Lists.{sum}
use Rattle.refusal.specs.Questions.{Verdict}
use Rattle.refusal.specs.Questions.{Pass}
use Rattle.refusal.specs.declared.CheckReport.{CheckReport}
use Rattle.refusal.specs.Questions.{refusal_number, number}
use Rattle.refusal.proofs.Questions.{then-pass, room-enough, then-first, then_next, number-above-0}
use Rattle.calendar_holidays.specs.Holidays.{holidays_question}
use Rattle.calendar_period.specs.Period.{period_check}
use Rattle.calendar_reading_periods.specs.ReadingPeriods.{ReadingPeriod}
use Rattle.calendar_reading_periods.proofs.ReadingPeriods.{all-dates, begins}
use Rattle.call_request.specs.Request.{ahead_of_period}
use Rattle.call_deliveries.specs.Deliveries.{Deliveries, whole_span, carried_through, balanced_periods, deliveries_check, output_after, Reports}
use Rattle.call_deliveries.proofs.Answers.{sound, whole-sound, one-per-period}
use Rattle.claim_deliveries.specs.Settled.{AskedOf, Settled, Accepts, DeliveriesSettled}
use Rattle.claim_deliveries.proofs.Sums.{signed, sum-differences, each-difference}
use Rattle.claim_deliveries.proofs.Periods.{expanded, all}

-- a refusal's number is not 0
no-refusal : (v : Verdict) → number v ≡ 0 → v ≡ Pass
no-refusal (Ok _) h = refl
no-refusal (Err r) h = let n = number-above-0 r in let z = eq-eqb (refusal_number r) 0 h in cc

asked-of : (d : Deliveries) (periods : List ReadingPeriod) (carry : ℕ) → AskedOf d (carried_through (whole_span d) periods carry)
unfolding carried_through AskedOf
asked-of d [] carry = tt
asked-of d (p ∷ periods) carry = (refl, refl, refl, refl, asked-of d periods _)

settled : (d : Deliveries) {after : List ℤ} → deliveries_check d ≡ Pass → after ≡ output_after d → Settled d after
unfolding output_after
settled d {after} passed leaves =
    let s = sound d passed in
    let some = s.counted.some in
    let whole = whole-sound d s in
    let periods = all (whole_span d) whole d.starts (omega arith) (begins d.first d.last d.starts s.dates (omega arith)) (all-dates d.first d.last d.starts s.dates) in
    let same : length d.metered ≡ length (balanced_periods d) =
    s.counted.same ∙ sym (ap length periods.first_dates) ∙ length-map (balanced_periods d) (λ r. r.first) in
    let count = one-per-period d s.counted.same in
    record {
      left = rw (passed, count) at leaves;
      one_per_period = count;
      each_difference = λ i h. each-difference d.metered (balanced_periods d) same i (omega (arith, s.counted.same));
      first_dates = periods.first_dates;
      adjacent = periods.adjacent;
      asked_of = asked-of d _ 0;
      handed_on = periods.handed_on;
      series_join = periods.joins;
      whole_expanded = expanded (whole_span d) whole;
      add_up =
          sum-differences d.metered (balanced_periods d) same
          ∙ ap (λ (xs : List ℕ). pos (1_000 * sum d.metered) -ℤ pos (sum xs)) periods.joins;
    }

accepts : (d : Deliveries) → Accepts d
unfolding deliveries_check
accepts d whole counted dates room =
    let to-8 = then_next (ahead_of_period d.file d.group) _ whole in
    let to-9 = then_next (period_check d.first d.last) _ to-8 in
    let to-10 = then_next (holidays_question d.holidays) _ to-9 in
    then-pass _ (then-first _ _ whole) ∙ then-pass _ (then-first _ _ to-8) ∙ then-pass _ counted ∙ then-pass _ dates
    ∙ then-pass _ (then-first _ _ to-9)
    ∙ then-pass _ (then-first _ _ to-10)
    ∙ room-enough _ _ room

accepted : (d : Deliveries) (report : CheckReport) (after : List ℤ) → Reports d report after → report.number ≡ 0 → Settled d after
accepted d report after e h = settled d (no-refusal (deliveries_check d) (rw e.answers at h)) e.leaves

pub deliveries-settled : DeliveriesSettled
unfolding DeliveriesSettled
deliveries-settled = (accepted, λ d answer after e. record { answers = e.reports; leaves = e.leaves }, accepts, signed)
