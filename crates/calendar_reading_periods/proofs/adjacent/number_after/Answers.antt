-- `number_after` meets its contract: day numbers are small.
use native.Mathlib.Omega.{arith}
use Rattle.calendar_dates.proofs.Dates.{number_small}
use Rattle.calendar_reading_periods.proofs.adjacent.number_after.Goals as goal

pub overflow_add-result : goal.overflow_add-result
overflow_add-result c = let last = c.day_number.ensures in omega (arith, last.same, number_small _ last.real)
