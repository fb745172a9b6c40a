-- `call_deliveries::fill` meets its contract: a turn is one period (proofs/Filling.antt).
use Rattle.std.proofs.Common.{ℕ, ap, slice_index_or}
use mathlib.Core.Path.{◌∙◌}
use native.Mathlib.Omega.{arith}
use mir.Facts.{to_z-of_z}
use mir.Syntax.{w64}
use borrow.Author.Rules.{sfits_of}
use Rattle.call_deliveries.specs.Deliveries.{difference}
use Rattle.call_deliveries.proofs.Filling.{length-differences, turn, end}
use Rattle.call_deliveries.proofs.fill.Goals as goal

pub loop-i-preserved : goal.loop-i-preserved
loop-i-preserved c =
    let steps = c.in-Some.ensures.steps in
    let balanced = c.total_days-balanced in
    let at_place = ap (λ (at : ℕ). difference (slice_index_or c.args.metered.now at 0) balanced.result.total) steps.1 in
    let stored = to_z-of_z {w = w64} (sfits_of c.difference_of.type_inv) ∙ c.difference_of.ensures ∙ at_place in
    rw (steps.1, steps.2) (turn c.loop-i.invariant steps.0 balanced.ensures.value stored)

pub returns : goal.returns
returns c =
    let n = length-differences c.args.basis.now c.args.yearly c.args.metered.now c.args.periods 0 c.requires.same in
    end c.loop-i.invariant c.in-None.ensures.steps.0.0 n (omega (arith, c.requires.same, c.requires.room))
