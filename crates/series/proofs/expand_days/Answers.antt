-- `series::expand_days` meets its contract: a turn is one day (proofs/DayByDay.antt, proofs/Storing.antt).
use Rattle.std.proofs.Common.{arith, ap}
use lib.ListN.{length-map}
use Rattle.carry.specs.declared.Totals.{Totals}
use Rattle.series.proofs.DayByDay.{start, in-range, total-fits}
use Rattle.series.proofs.Storing.{none-stored, day-stored}
use Rattle.series.proofs.expand_days.Goals as goal

pub loop-day-init : goal.loop-day-init
loop-day-init c =
    let days = c.days-day-items.ensures in
    let p = c.args.period in
    let zero = c.default.ensures in
    none-stored
    (rw (c.into_iter-day-iterator.ensures.into_iter_gives, days.value, zero.0, zero.1.0)
    (start c.args.basis.now days.group_values p.days p.first c.requires.in_range days.few days.real))
    (rw length-map c.requires.room)

pub expand_day-today-requires-clause-in_range : goal.expand_day-today-requires-clause-in_range
expand_day-today-requires-clause-in_range c = in-range c.loop-day.invariant.so_far

pub and-so_far-requires-clause-total : goal.and-so_far-requires-clause-total
and-so_far-requires-clause-total c =
    let today = ap (λ (t : Totals). t.total) c.expand_day-today.ensures.totals in
    omega (arith, total-fits c.loop-day.invariant.so_far c.in-Some.ensures.steps)

pub loop-day-preserved : goal.loop-day-preserved
loop-day-preserved c =
    day-stored c.loop-day.invariant c.in-Some.ensures.steps c.expand_day-today.ensures c.and-so_far.ensures
