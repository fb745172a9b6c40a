-- `polynomial_horner::in_range` meets its contract: two comparisons of whole numbers (proofs/Comparisons.antt).
use mathlib.Core.Path.{refl}
use lib.Ieee.{of_bits}
use Rattle.polynomial_binary64.specs.Binary64.{whole}
use Rattle.polynomial_horner.proofs.WholeFloats.{coefficient-whole}
use Rattle.polynomial_horner.proofs.Comparisons.{in-range}
use Rattle.polynomial_horner.proofs.in_range.Goals as goal

pub returns : goal.returns
unfolding of_bits
returns c = in-range _ _ c.args.x (whole c.args.x) (refl, refl) (refl, refl) (coefficient-whole c.args.x c.requires)
