-- `series::powers_on` meets its contract: no factor is above 20,000, so no power is above 40,000.
use Rattle.std.proofs.Common.{◌≤◌, arith}
use Rattle.dynamisation.proofs.Dynamisation.{F-small}
use Rattle.day_powers.proofs.DayQuarters.{powers-small}
use Rattle.series.proofs.basis.powers_on.Goals as goal

pub powers_of-requires-clause-f_bound : goal.powers_of-requires-clause-f_bound
powers_of-requires-clause-f_bound c =
    let limit = F-small c.args.group c.day_of_year.result c.day_of_year.ensures.in_year in
    omega (arith, c.factor.ensures)

pub returns-clause-small : goal.returns-clause-small
returns-clause-small c =
    let limit = F-small c.args.group c.day_of_year.result c.day_of_year.ensures.in_year in
    let factor : c.factor.result ≤ 20_000 = omega (arith, c.factor.ensures) in
    rw c.powers_of.ensures (powers-small c.args.values.now _ c.factor.result c.requires.small factor)
