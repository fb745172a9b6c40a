-- What each turn of the loop keeps: the entries left are still to be asked of.
use Prim.Native.Nat.{◌-◌}
use lib.ListN.{length}
use Rattle.refusal.proofs.Questions.{Asking}
use Rattle.calendar_holidays.specs.Holidays.{holiday_question, holidays_question}
use Rattle.calendar_holidays.proofs.holidays_question.Given as goal

abbrev pub invariant-loop-index : goal.invariant-loop-index
invariant-loop-index l = Asking (holiday_question l.holidays) 1 (length l.holidays - l.index) l.index (holidays_question l.holidays)
