-- `CalendarDay::number` meets its contract: the parts of a date are small.
use native.Mathlib.Omega.{arith}
use Rattle.calendar_dates.proofs.Dates.{parts}
use Rattle.calendar_dates.proofs.day.CalendarDay.number.Goals as goal

pub overflow_mul-result : goal.overflow_mul-result
overflow_mul-result c = omega (arith, parts _ c.self.invariant.0)

pub overflow_mul-result-2 : goal.overflow_mul-result-2
overflow_mul-result-2 c = omega (arith, parts _ c.self.invariant.0)

pub overflow_add-result : goal.overflow_add-result
overflow_add-result c = omega (arith, parts _ c.self.invariant.0)

pub overflow_add-result-2 : goal.overflow_add-result-2
overflow_add-result-2 c = omega (arith, parts _ c.self.invariant.0)
