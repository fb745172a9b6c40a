-- `carry_quotients::store_growths` meets its contract: what is stored and the powers left come to the whole (proofs/Growths.antt).
use Rattle.std.proofs.Common.{arith}
use Rattle.carry_quotients.proofs.Growths.{growth, turn, done}
use Rattle.carry_quotients.proofs.store_growths.Goals as goal

pub overflow_cast-out : goal.overflow_cast-out
overflow_cast-out g c = omega (arith, growth c.requires.growing c.loop-i.invariant)

pub loop-i-preserved : goal.loop-i-preserved
loop-i-preserved g c = turn c.requires.growing c.loop-i.invariant (omega arith)

pub returns-clause-sum : goal.returns-clause-sum
returns-clause-sum g c = (done c.requires.growing c.loop-i.invariant (omega arith) c.requires.room).0

pub returns-clause-growths : goal.returns-clause-growths
returns-clause-growths g c = (done c.requires.growing c.loop-i.invariant (omega arith) c.requires.room).1
