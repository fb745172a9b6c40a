-- A piece of an accepted period passes every question but the last. Assumes nothing.
use mathlib.Core.Path.{◌≡◌, ◌∙◌, ap}
use mathlib.Core.Bool.{true}
use Prim.Native.Nat.{ℕ, ◌+◌, ◌≤◌, ◌<◌}
use native.Mathlib.Omega.{arith}
use lib.ListN.{length}
use borrow.Author.Tests.{le-leb}
use Rattle.refusal.specs.Questions.{answered}
use Rattle.refusal.specs.declared.Refusal.TheVariants.{BadUse, BadCarry}
use Rattle.refusal.specs.Questions.{Verdict}
use Rattle.refusal.specs.Questions.{Pass}
use Rattle.refusal.specs.Questions.{room_question}
use Rattle.refusal.proofs.Questions.{ask-yes, then-pass, then-first, then_next}
use Rattle.calendar_dates.specs.declared.Date.{Date}
use Rattle.calendar_dates.specs.Dates.{date_of, day_number, days_later, AllDates}
use Rattle.calendar_dates.proofs.Later.{later-number}
use Rattle.calendar_holidays.specs.Holidays.{holidays_question}
use Rattle.calendar_period.specs.Period.{days_of}
use Rattle.calendar_period.proofs.Periods.{Period, period-passed, period-passes}
use Rattle.calendar_laws.proofs.Periods.{period-days}
use Rattle.carry.specs.Carry.{largest_use, largest_carry}
use Rattle.call_request.specs.Request.{Request, series, use_question, carry_question, ahead_of_period, behind_period, request_check}
use Rattle.call_request.proofs.Sound.{Sound, sound}
use Rattle.call_expansion.specs.Answered.{reported}
use Rattle.call_expand.specs.Expanding.{expand_check, totals, expansion}
use Rattle.claim_successive.specs.Pieces.{PieceOfPeriod, PiecesPass}
use Rattle.claim_successive.specs.Reports.{is_accepted}
use Rattle.claim_successive.specs.SuccessiveCalls.{Call, ByContract, Common, Piece, piece_answer, OutputAlone}
use Rattle.claim_successive.proofs.Answers.{took}

-- the days of a piece are a period
module _ (first last : Date) (all : AllDates (days_of first last) first) (before more : ℕ) (inside : before + more < days_of first last) where
  numbered : (k : ℕ) → k < days_of first last → day_number (days_later k first) ≡ day_number first + k
  numbered k h = later-number k first (λ j l. all j (omega arith))

  ordered : day_number (days_later before first) ≤ day_number (days_later (before + more) first)
  ordered = omega (arith, numbered before (omega arith), numbered (before + more) inside)

  shorter : days_of (days_later before first) (days_later (before + more) first) ≤ days_of first last
  unfolding days_of
  shorter = omega (arith, numbered before (omega arith), numbered (before + more) inside)

piece-period : (first last from to : ℕ) → Period first last → PieceOfPeriod first last from to → Period from to
piece-period first last from to w p =
    let begin = date_of first in
    let end = date_of last in
    let all = (period-days begin end w.dates-first w.dates-last w.ordered).dates in
    let short = shorter begin end all p.before p.more p.inside in
    let inside = p.inside in
    record {
      dates-first = rw p.begins (all p.before (omega arith));
      dates-last = rw p.ends (all (p.before + p.more) p.inside);
      ordered = rw (p.begins, p.ends) (ordered begin end all p.before p.more p.inside);
      short = rw (p.begins, p.ends) (omega (arith, w.short));
    }

pub pieces-pass : PiecesPass
unfolding PiecesPass
pieces-pass ahead behind own first last from to h p k =
    let whole = period-passed first last (then-first _ behind (then_next ahead _ h)) in
    then-pass _ (then-first ahead _ h) ∙ then-pass own (period-passes from to (piece-period first last from to whole p)) ∙ k

-- what is asked behind a piece's period: the list and the yearly use are the whole's, and its carry is in range
behind-passes : (whole piece : Request) → Sound whole → Piece whole piece → behind_period piece.holidays piece.yearly piece.carry ≡ Pass
unfolding use_question carry_question
behind-passes whole piece s p =
    let carry = p.carry_in_range in
    let holidays : holidays_question piece.holidays ≡ holidays_question whole.holidays = ap (λ (x : Common). holidays_question x.holidays) p.same in
    let yearly : piece.yearly ≡ whole.yearly = ap (λ (x : Common). x.yearly) p.same in
    then-pass _ (holidays ∙ s.holidays) ∙ then-pass _ (ask-yes BadUse (le-leb piece.yearly largest_use (rw yearly s.yearly)))
    ∙ ask-yes BadCarry (le-leb piece.carry largest_carry (omega arith))

-- questions 1 to 11
others-pass : (whole piece : Request) → request_check whole ≡ Pass → Piece whole piece → request_check piece ≡ Pass
unfolding PiecesPass
others-pass whole piece h p =
    let same : ahead_of_period piece.file piece.group ≡ ahead_of_period whole.file whole.group =
    ap (λ (x : Common). ahead_of_period x.file x.group) p.same in
    rw same
    (pieces-pass (ahead_of_period whole.file whole.group) (behind_period whole.holidays whole.yearly whole.carry)
    (behind_period piece.holidays piece.yearly piece.carry) whole.first whole.last piece.first piece.last h p.days
    (behind-passes whole piece (sound whole h) p))

pub output-alone : (whole piece : Call) → ByContract whole → is_accepted whole.report ≡ true → ByContract piece → Piece whole.given piece.given → OutputAlone piece
unfolding expand_check expansion piece_answer
output-alone whole piece e h own p =
    let q = piece.given in
    let others = others-pass whole.given q (then-first (request_check whole.given) _ (took whole e h).passed) p in
    let all : expand_check q ≡ room_question (length (series q)) (length q.output) = then-pass _ others in
    let answer : expansion q ≡ piece_answer q = ap (λ (v : Verdict). answered v (totals q)) all in
    record { others = others; answer_is = answer; report_is = own.answers ∙ ap reported answer }
