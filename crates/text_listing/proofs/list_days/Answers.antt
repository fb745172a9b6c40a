-- `text_listing::list_days` meets its contract: a turn is one day (proofs/LineByLine.antt).
use Rattle.std.proofs.Common.{arith}
use Rattle.series_rows.specs.Rows.{row_of}
use Rattle.series.proofs.DayByDay.{start, in-range}
use Rattle.text_listing.proofs.LineByLine.{none-put, few-counted, total-room, line-put}
use Rattle.text_listing.proofs.list_days.Goals as goal

pub loop-day-init : goal.loop-day-init
loop-day-init g c =
    let days = c.days-day-items.ensures in
    let p = c.args.period in
    let zero = c.default.ensures in
    rw (c.into_iter-day-iterator.ensures.into_iter_gives, days.value, zero.0, zero.1.0)
    (none-put g.L.DayLine.line g.L.DayLine.longest (start c.args.basis.now days.group_values p.days p.first c.requires.in_range days.few days.real))

pub total_of_kind-today-requires-clause-in_range : goal.total_of_kind-today-requires-clause-in_range
total_of_kind-today-requires-clause-in_range g c = in-range c.loop-day.invariant.so_far

pub put-requires-clause-count_bound : goal.put-requires-clause-count_bound
put-requires-clause-count_bound g c =
    omega (arith, few-counted c.loop-day.invariant c.in-Some.ensures.steps c.total_of_kind-today.ensures c.days-day-items.ensures.group_values)

pub put-requires-clause-watt_hours_bound : goal.put-requires-clause-watt_hours_bound
put-requires-clause-watt_hours_bound g c =
    omega (arith, total-room c.loop-day.invariant c.in-Some.ensures.steps c.total_of_kind-today.ensures)

pub and-so_far-requires-clause-total : goal.and-so_far-requires-clause-total
and-so_far-requires-clause-total g c =
    omega (arith, total-room c.loop-day.invariant c.in-Some.ensures.steps c.total_of_kind-today.ensures)

pub loop-day-preserved : goal.loop-day-preserved
loop-day-preserved g c =
    let today = c.total_of_kind-today.result in
    let l = c.loop-day.invariant in
    let steps = c.in-Some.ensures.steps in
    let e = c.total_of_kind-today.ensures in
    let few = few-counted l steps e c.days-day-items.ensures.group_values in
    let most = total-room l steps e in
    let short = g.met.L.DayLine.within c.in-Some.kind (row_of c.in-Some.day today.count today.total) (omega arith) (omega arith) in
    line-put l steps e c.put.ensures short c.requires.room c.and-so_far.ensures
