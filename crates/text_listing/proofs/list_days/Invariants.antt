-- The invariant: what is put and the lines of the days left come to the whole (proofs/LineByLine.antt).
use Rattle.text_listing.proofs.LineByLine.{LinesLeft}
use Rattle.text_listing.proofs.list_days.Given as goal

abbrev pub invariant-loop-day : goal.invariant-loop-day
invariant-loop-day g l =
    LinesLeft g.L.DayLine.line g.L.DayLine.longest l.fn.basis l.fn.yearly l.fn.carry l.fn.period.days l.fn.period.first
    l.fn.page l.day-iterator l.so_far l.page
