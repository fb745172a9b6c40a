-- `Period::between` meets its contract: day numbers are small, and between two dates there are only dates.
use native.Mathlib.Omega.{arith}
use Rattle.calendar_dates.proofs.Dates.{number_small}
use Rattle.calendar_period.specs.Period.{days_of}
use Rattle.calendar_period.proofs.Periods.{all-between}
use Rattle.calendar_period.proofs.period.Period.between.Goals as goal

pub overflow_add-days : goal.overflow_add-days
overflow_add-days c = let last = c.day_number-to.ensures in omega (arith, last.same, number_small _ last.real)

pub of_days-requires-clause-real : goal.of_days-requires-clause-real
unfolding days_of
of_days-requires-clause-real c =
    let from = c.day_number-from.ensures in
    let to = c.day_number-to.ensures in
    λ k h. all-between c.args.first c.args.last from.real to.real (omega (arith, from.same, to.same)) k (omega (arith, from.same, to.same))
