-- `carry_parts::carry_by_parts` meets its contract: the parts' quotient grows as that of the sum for which they stand, which they are
-- above by at most 39,999 for the carry and for each tenth of a watt (proofs/Parts.antt).
use Rattle.std.proofs.Common.{◌+◌, ◌*◌, ◌≤◌, ◌<◌, arith}
use Rattle.lists.specs.Lists.{sum}
use Rattle.carry_quotients.proofs.Figures.{carried, sum-small}
use Rattle.carry_parts.proofs.Parts.{scaled, excess, quotient-of, remainder_of, first-sum, first-excess, more-sum, growths-of}
use Rattle.carry_parts.proofs.carry_by_parts.Goals as goal

pub returns : goal.returns
returns c =
    let a = c.args in
    let small = c.requires.small_powers in
    let carry = a.carry in
    let all = sum a.powers.now in
    let few : all ≤ 96 * 40_000 = omega (arith, sum-small a.powers.now small.small, c.requires.in_day) in
    let below : excess (scaled carry) + all * 39_999 < 274_877_906_944 = omega (arith, few, first-excess carry small.in_range) in
    let whole = more-sum (scaled carry) all a.yearly below in
    let first = first-sum carry small.in_range in
    carried small c.requires.in_day
    (rw first at whole)
    (rw (growths-of a.yearly a.powers.now (scaled carry) below, first) at c.store_growths-sum.ensures.growths)
    (rw (← c.store_growths-sum.ensures.sum) (quotient-of c.store_growths-sum.result))
    (rw (← c.store_growths-sum.ensures.sum) (remainder_of c.store_growths-sum.result))
