-- `series_totals::total_of_kind` meets its contract: the day's powers and clock are its own (proofs/Summing.antt).
use Rattle.series.proofs.OneDay.{own-kind}
use Rattle.series_totals.proofs.Summing.{day-total}
use Rattle.series_totals.proofs.total_of_kind.Goals as goal

pub returns : goal.returns
returns c =
    let b = c.args.basis.now in
    day-total b c.powers.ensures.group_values c.args.day (own-kind b c.args.day c.requires.own_kind c.powers.ensures.value)
    c.clock_of-clock.ensures c.value_count.ensures c.total_day-carried.ensures
