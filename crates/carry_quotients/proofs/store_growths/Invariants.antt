-- What each turn of the loop keeps.
use Rattle.carry_quotients.proofs.Growths.{Left}
use Rattle.carry_quotients.proofs.store_growths.Given as goal

abbrev pub invariant-loop-i : goal.invariant-loop-i
invariant-loop-i g l = Left g.row.UNIT l.factor l.powers l.first l.initial.out l.out l.i l.sum l.total
