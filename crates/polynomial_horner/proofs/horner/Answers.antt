-- `polynomial_horner::horner` meets its contract: it computes the four steps of the definition.
use mathlib.Core.Path.{refl}
use Rattle.polynomial_horner.specs.Horner.{step, horner}
use Rattle.polynomial_horner.proofs.horner.Goals as goal

pub returns : goal.returns
unfolding step horner
returns c = refl
