-- `polynomial_horner::day_in_range` meets its contract: the evaluation loses nothing (proofs/LosesNothing.antt).
use mathlib.Core.Path.{◌∙◌, ap}
use Rattle.polynomial.specs.Polynomial.{in_range}
use Rattle.polynomial_horner.proofs.LosesNothing.{evaluated}
use Rattle.polynomial_horner.proofs.day_in_range.Goals as goal

pub in_range-requires : goal.in_range-requires
in_range-requires c =
    (evaluated c.args.p.polynomial c.args.t c.horner.result c.args.p.allowed c.requires.0 c.requires.1 c.horner.ensures).is_whole

pub returns : goal.returns
returns c =
    let x = evaluated c.args.p.polynomial c.args.t c.horner.result c.args.p.allowed c.requires.0 c.requires.1 c.horner.ensures in
    c.in_range.ensures ∙ ap in_range x.same
