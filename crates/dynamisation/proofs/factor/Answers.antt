-- `dynamisation::factor` meets its contract: `exact_factor` answers the whole number that X is, which the cast to u64
-- leaves as it is. The rest is arithmetic.
use mathlib.Core.Path.{◌≡◌, ◌∙◌, ap}
use native.Mathlib.Omega.{arith}
use lib.IntN.{ℤ, pos, nat_abs}
use mir.Facts.{to_z-of_z}
use mir.Syntax.{w64}
use mir.Val.{SFits, to_z, of_z}
use borrow.Author.Rules.{sfits_of}
use Rattle.dynamisation.proofs.Dynamisation.{Whole, whole, rounded}
use Rattle.dynamisation.proofs.factor.Goals as goal

-- the answer, read back from the bits in which the machine keeps it
kept : (z x : ℤ) (w : Whole x) → SFits w64 z → z ≡ x → to_z w64 (of_z w64 z) ≡ pos w.x
kept z x w f e = to_z-of_z f ∙ e ∙ w.exact

pub overflow_cast-x : goal.overflow_cast-x
overflow_cast-x c =
    let w = whole c.args.group c.args.t c.requires in
    let k = kept _ _ w (sfits_of c.exact_factor-x.type_inv) c.exact_factor-x.ensures in
    (rw k tt, omega (arith, ap nat_abs k, w.limit))

pub overflow_cast-result : goal.overflow_cast-result
overflow_cast-result c =
    let w = whole c.args.group c.args.t c.requires in
    let k = kept _ _ w (sfits_of c.exact_factor-x.type_inv) c.exact_factor-x.ensures in
    omega (arith, ap nat_abs k, w.limit)

pub returns : goal.returns
returns c =
    let w = whole c.args.group c.args.t c.requires in
    let k = kept _ _ w (sfits_of c.exact_factor-x.type_inv) c.exact_factor-x.ensures in
    omega (arith, ap nat_abs k, rounded c.args.group c.args.t w)
