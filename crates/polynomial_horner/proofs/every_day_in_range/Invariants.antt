-- What each turn of the loop keeps: whether the test passed on each of the days done.
use Rattle.std.proofs.Common.{◌≡◌, ℕ, ◌-◌}
use Rattle.polynomial.specs.Polynomial.{X, in_range, every_day}
use Rattle.polynomial_binary64.specs.Binary64.{coefficients_of}
use Rattle.polynomial_horner.proofs.every_day_in_range.Given as goal

abbrev pub invariant-loop-t : goal.invariant-loop-t
invariant-loop-t l =
    l.passed ≡ every_day (λ (t : ℕ). in_range (X (coefficients_of l.p.polynomial) t)) (l.t - 1)
