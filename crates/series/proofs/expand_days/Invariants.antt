-- The invariant: the figures of the days so far stand in the output, and the days left come to the whole (proofs/Storing.antt).
use Rattle.series.proofs.DayByDay.{powers_from}
use Rattle.series.proofs.Storing.{Stored}
use Rattle.series.proofs.expand_days.Given as goal

abbrev pub invariant-loop-day : goal.invariant-loop-day
invariant-loop-day l =
    Stored l.fn.basis l.fn.yearly l.fn.carry (powers_from l.fn.basis l.fn.period.days l.fn.period.first)
    l.day-iterator l.so_far l.initial.out l.out
