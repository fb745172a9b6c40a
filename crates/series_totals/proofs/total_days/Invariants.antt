-- The invariant: what the days so far come to and the days left make the whole (proofs/Summing.antt).
use Rattle.series.proofs.DayByDay.{powers_from}
use Rattle.series_totals.proofs.Summing.{Summed}
use Rattle.series_totals.proofs.total_days.Given as goal

abbrev pub invariant-loop-day : goal.invariant-loop-day
invariant-loop-day l =
    Summed l.fn.basis l.fn.yearly l.fn.carry (powers_from l.fn.basis l.fn.period.days l.fn.period.first) l.day-iterator l.so_far
