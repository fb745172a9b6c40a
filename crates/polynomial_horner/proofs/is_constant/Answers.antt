-- `polynomial_horner::is_constant` meets its contract: a coefficient that equals 0 is the whole number 0 (proofs/Comparisons.antt).
use mathlib.Core.Path.{refl}
use lib.Ieee.{of_bits}
use Rattle.polynomial_horner.proofs.Usable.{constant}
use Rattle.polynomial_horner.proofs.is_constant.Goals as goal

pub returns : goal.returns
unfolding of_bits
returns c = constant _ (refl, refl) c.args.p.polynomial c.args.p.allowed
