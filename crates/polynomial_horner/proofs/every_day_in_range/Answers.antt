-- `polynomial_horner::every_day_in_range` meets its contract. After the last turn all 366 days are done.
use mathlib.Core.Path.{◌≡◌, ◌∙◌, ap}
use Prim.Native.Nat.{ℕ, ◌-◌}
use native.Mathlib.Omega.{arith}
use Rattle.polynomial.specs.Polynomial.{X, in_range, every_day, usable}
use Rattle.polynomial_binary64.specs.Binary64.{coefficients_of}
use Rattle.polynomial_horner.proofs.every_day_in_range.Goals as goal

pub returns : goal.returns
unfolding usable
returns c =
    let all : c.loop-t.t - 1 ≡ 366 = omega arith in
    c.loop-t.invariant ∙ ap (every_day (λ (t : ℕ). in_range (X (coefficients_of c.args.p.polynomial) t))) all
