-- `series_totals::total_days` meets its contract: a turn is one day (proofs/Summing.antt).
use Rattle.std.proofs.Common.{arith, ap, []}
use Rattle.carry.specs.declared.Totals.{Totals}
use Rattle.series.proofs.DayByDay.{start, in-range, total-fits}
use Rattle.series_totals.proofs.Summing.{day-summed}
use Rattle.series_totals.proofs.total_days.Goals as goal

pub loop-day-init : goal.loop-day-init
loop-day-init c =
    let days = c.days-day-items.ensures in
    let p = c.args.period in
    let zero = c.default.ensures in
    record {
      done = [];
      so_far = rw (c.into_iter-day-iterator.ensures.into_iter_gives, days.value, zero.0, zero.1.0)
          (start c.args.basis.now days.group_values p.days p.first c.requires days.few days.real);
    }

pub total_of_kind-today-requires-clause-in_range : goal.total_of_kind-today-requires-clause-in_range
total_of_kind-today-requires-clause-in_range c = in-range c.loop-day.invariant.so_far

pub and-so_far-requires-clause-total : goal.and-so_far-requires-clause-total
and-so_far-requires-clause-total c =
    let today = ap (λ (t : Totals). t.total) c.total_of_kind-today.ensures in
    omega (arith, total-fits c.loop-day.invariant.so_far c.in-Some.ensures.steps)

pub loop-day-preserved : goal.loop-day-preserved
loop-day-preserved c = day-summed c.loop-day.invariant c.in-Some.ensures.steps c.total_of_kind-today.ensures c.and-so_far.ensures
