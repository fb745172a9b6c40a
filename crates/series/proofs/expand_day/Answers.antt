-- `series::expand_day` meets its contract: the day's powers and clock are its own (proofs/OneDay.antt).
use Rattle.std.proofs.Common.{arith}
use Rattle.series.proofs.OneDay.{own-kind, counted, day-filled}
use Rattle.series.proofs.expand_day.Goals as goal

pub carry_day-carried-requires-clause-room : goal.carry_day-carried-requires-clause-room
carry_day-carried-requires-clause-room c =
    let b = c.args.basis.now in
    let own = own-kind b c.args.day c.requires.own_kind c.powers.ensures.value in
    omega (arith, counted b c.powers.ensures.group_values c.args.day own c.clock_of-clock.ensures, c.requires.room)

pub returns : goal.returns
returns c =
    let b = c.args.basis.now in
    let own = own-kind b c.args.day c.requires.own_kind c.powers.ensures.value in
    day-filled b c.powers.ensures.group_values c.args.day own c.clock_of-clock.ensures
    c.carry_day-carried.ensures c.value_count.ensures
