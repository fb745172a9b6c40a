-- `carry_total::total_day` meets its contract: the day's two ranges, summed, come to one quotient (proofs/Total.antt).
use Rattle.std.proofs.Common.{arith}
use Rattle.carry_total.proofs.Total.{power-small, energy-small, day-total}
use Rattle.carry_total.proofs.total_day.Goals as goal

pub overflow_add-energy : goal.overflow_add-energy
overflow_add-energy c =
    let r = c.ranges_of.ensures in
    omega (arith, power-small _ _ _ _ _ _ r.joined c.requires r.first_short r.second_short)

pub overflow_mul-energy : goal.overflow_mul-energy
overflow_mul-energy c =
    let r = c.ranges_of.ensures in
    rw (c.sum_of.ensures, c.sum_of-2.ensures)
    (omega (arith, energy-small _ _ _ _ _ _ r.joined c.requires r.first_short r.second_short))

pub overflow_add-energy-2 : goal.overflow_add-energy-2
overflow_add-energy-2 c =
    let r = c.ranges_of.ensures in
    rw (c.sum_of.ensures, c.sum_of-2.ensures)
    (omega (arith, c.requires.in_range, energy-small _ _ _ _ _ _ r.joined c.requires r.first_short r.second_short))

pub returns : goal.returns
returns c = rw (c.sum_of.ensures, c.sum_of-2.ensures) (day-total c.args.powers c.ranges_of.result.0.now c.ranges_of.result.1.now c.args.clock c.args.yearly c.args.carry c.ranges_of.ensures.joined c.requires.in_range)
