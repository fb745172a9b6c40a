-- `polynomial_horner::is_usable` meets its contract: a constant polynomial has the same answer on every day (proofs/Usable.antt).
use mathlib.Core.Path.{◌∙◌}
use Rattle.polynomial.specs.Polynomial.{limit}
use Rattle.polynomial_binary64.specs.Binary64.{coefficients_of}
use Rattle.polynomial_horner.proofs.WholeFloats.{allowed-whole}
use Rattle.polynomial_horner.proofs.Usable.{constant-usable}
use Rattle.polynomial_horner.proofs.is_usable.Goals as goal

pub in_range-requires : goal.in_range-requires
in_range-requires c = (allowed-whole (limit 4) c.args.p.polynomial.t0 c.args.p.allowed.allowed0).signed

pub returns-then-is_constant : goal.returns-then-is_constant
returns-then-is_constant c =
    c.in_range.ensures ∙ constant-usable (coefficients_of c.args.p.polynomial) (c.is_constant.ensures c.if-is_constant.true)
