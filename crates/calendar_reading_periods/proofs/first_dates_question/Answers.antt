-- `first_dates_question` meets its contract: what is left to ask is all that counts.
use mathlib.Core.Path.{◌≡◌, refl}
use Prim.Native.Nat.{◌+◌, ◌-◌}
use lib.ListN.{length}
use native.Mathlib.Nat.{sub-zero}
use native.Mathlib.Omega.{arith}
use Rattle.std.proofs.lemmas.Result.{err_from_is_err_and}
use Rattle.refusal.proofs.Questions.{refused-here, passed_here, all-passed}
use Rattle.calendar_reading_periods.specs.ReadingPeriods.{first_dates_question}
use Rattle.calendar_reading_periods.proofs.first_dates_question.Goals as goal

pub loop-index-init : goal.loop-index-init
unfolding first_dates_question
loop-index-init c = record { asked = rw sub-zero refl }

pub returns-in_err-first_date_question : goal.returns-in_err-first_date_question
returns-in_err-first_date_question c =
    let p = err_from_is_err_and c.from_residual.result c.from_residual.ensures.1 in
    rw (p.1, p.2) (refused-here c.loop-index.invariant (omega arith) c.first_date_question.ensures c.in_err-first_date_question.was)

pub loop-index-preserved : goal.loop-index-preserved
loop-index-preserved c =
    let n = length c.args.starts.now in
    let left : n - (c.loop-index.index + 1) ≡ n - c.loop-index.index - 1 = omega arith in
    rw left (passed_here c.loop-index.invariant (omega arith) c.first_date_question.ensures c.in_ok-first_date_question.was)

pub returns : goal.returns
returns c = all-passed c.loop-index.invariant (omega arith)
