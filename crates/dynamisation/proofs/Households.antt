-- X of a group, by whether its code is 0: the value of the households' polynomial, or 10^12. Assumes nothing.
use Rattle.std.proofs.Common.{◌≡◌, refl, ℕ, zero, suc, ◌<◌, ◌^◌, pos, arith}
use Rattle.polynomial.specs.Polynomial.{household}
use Rattle.polynomial.specs.Polynomial as polynomial
use Rattle.dynamisation.specs.Dynamisation.{X, household_x}

pub households : (group t : ℕ) → group ≡ 0 → polynomial.X household t ≡ X group t
unfolding polynomial.X X household_x
households zero t h = refl
households (suc group) t h = absurd (omega arith)

pub others : (group t : ℕ) → 0 < group → pos (10 ^ 12) ≡ X group t
unfolding X
others zero t h = absurd (omega arith)
others (suc group) t h = refl
