-- The invariant: what is stored and the differences of the periods left come to the whole (proofs/Filling.antt).
use Rattle.call_deliveries.specs.Inside.{differences_from}
use Rattle.call_deliveries.proofs.Filling.{Left}
use Rattle.call_deliveries.proofs.fill.Given as goal

abbrev pub invariant-loop-i : goal.invariant-loop-i
invariant-loop-i l =
    Left l.basis l.yearly l.metered (differences_from l.basis l.yearly l.metered l.fn.periods 0) l.initial.out l.out l.i-iterator.count l.carry
    l.i-iterator.iter
