-- `carry_day::carry_day` meets its contract: without a clock change the day is one range (proofs/TwoRanges.antt).
use Rattle.std.proofs.Common.{arith}
use Rattle.carry_day.proofs.TwoRanges.{unchanged}
use Rattle.carry_day.proofs.carry_day.Goals as goal

pub returns-in-Unchanged : goal.returns-in-Unchanged
returns-in-Unchanged c = rw c.in-Unchanged.is (unchanged (omega arith) c.carry_range.ensures)
