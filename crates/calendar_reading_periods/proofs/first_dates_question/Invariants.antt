-- What each turn of the loop keeps: the first dates left are still to be asked of.
use Prim.Native.Nat.{◌-◌}
use lib.ListN.{length}
use Rattle.refusal.proofs.Questions.{Asking}
use Rattle.calendar_reading_periods.specs.ReadingPeriods.{first_date_question, first_dates_question}
use Rattle.calendar_reading_periods.proofs.first_dates_question.Given as goal

abbrev pub invariant-loop-index : goal.invariant-loop-index
invariant-loop-index l = Asking (first_date_question l.first l.last l.starts) 1 (length l.starts - l.index) l.index (first_dates_question l.first l.last l.starts)
