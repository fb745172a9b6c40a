-- `Periods::next` meets its contract: the days up to the day after are the period's, and the others are left.
use mathlib.Core.Path.{refl, ◌∙◌, sym, ap}
use native.Mathlib.Omega.{arith}
use Rattle.calendar_dates.specs.Dates.{day_number}
use Rattle.calendar_reading_periods.proofs.ReadingPeriods.{left-next, begun-before, few-left, all-real, period-is}
use Rattle.calendar_reading_periods.proofs.adjacent.PeriodsIterator.next.Goals as goal

pub overflow_sub-days : goal.overflow_sub-days
overflow_sub-days c =
    let left = rw c.in_ok-start.ensures.cases.0 at c.self.invariant in
    let first = c.new-first.ensures ∙ c.from.ensures in
    let from = c.day_number.ensures.same ∙ ap day_number first in
    omega (arith, begun-before left c.number_after.ensures from)

pub of_days-requires-clause-few : goal.of_days-requires-clause-few
of_days-requires-clause-few c =
    let left = rw c.in_ok-start.ensures.cases.0 at c.self.invariant in
    let first = c.new-first.ensures ∙ c.from.ensures in
    let from = c.day_number.ensures.same ∙ ap day_number first in
    few-left left c.number_after.ensures from

pub of_days-requires-clause-real : goal.of_days-requires-clause-real
of_days-requires-clause-real c =
    let left = rw c.in_ok-start.ensures.cases.0 at c.self.invariant in
    let first = c.new-first.ensures ∙ c.from.ensures in
    let from = c.day_number.ensures.same ∙ ap day_number first in
    rw first (all-real left c.number_after.ensures from)

pub invariant_of-self : goal.invariant_of-self
invariant_of-self c = left-next (rw c.in_ok-start.ensures.cases.0 at c.self.invariant)

pub returns-clause-steps : goal.returns-clause-steps
returns-clause-steps c =
    let left = rw c.in_ok-start.ensures.cases.0 at c.self.invariant in
    let first = c.new-first.ensures ∙ c.from.ensures in
    let from = c.day_number.ensures.same ∙ ap day_number first in
    let this = period-is left c.number_after.ensures from (c.of_days.ensures.first ∙ first) c.of_days.ensures.days in
    sym c.self.view_is ∙ rw (c.in_ok-start.ensures.cases.0, this) refl
