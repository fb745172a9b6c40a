-- `Days::next` meets its contract: where two days are left, the second is a date, and the days after the first are left.
use native.Mathlib.Omega.{arith}
use Rattle.calendar_dates.specs.Dates.{days_later}
use Rattle.calendar_dates.proofs.Later.{all-next}
use Rattle.calendar_period.proofs.days.DaysIterator.next.Goals as goal

pub following-self-inside-requires : goal.following-self-inside-requires
unfolding days_later
following-self-inside-requires c = c.self.invariant 1 (omega arith)

pub invariant_of-self : goal.invariant_of-self
invariant_of-self c = rw c.following-self-inside.ensures (all-next _ _ c.self.invariant)
