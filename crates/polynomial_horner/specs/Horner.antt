-- Document 02, (f): the polynomial evaluated in binary64 numbers by Horner's rule.
use Rattle.std.specs.Prelude.{◌≡◌, ℕ, ◌≤◌, pos, Float}
use Rattle.std.specs.Float.{binary64}
use Rattle.std.specs.Float.Ieee.{add, mul, of_int}
use Rattle.polynomial.specs.Polynomial.{X}
use Rattle.polynomial_binary64.specs.declared.Polynomial.{Polynomial}
use Rattle.polynomial_binary64.specs.Binary64.{coefficients_of, Allowed}

-- one step of Horner's rule: the sum so far times the day t, and the next coefficient added, each rounded
unfoldable pub step : ℕ → Float → Float → Float
step t sum c = add binary64 (mul binary64 sum (of_int binary64 (pos t))) c

-- the float evaluation: from the coefficient of t^4 down to that of t^0
unfoldable pub horner : Polynomial → ℕ → Float
horner p t = step t (step t (step t (step t p.t4 p.t3) p.t2) p.t1) p.t0

-- "Within these limits the float evaluation of the polynomial loses nothing for t from 1 to 366": it is X, the sum of whole numbers.
-- Proved in proofs/LosesNothing.antt.
unfoldable pub LosesNothing : Type 0
LosesNothing = (p : Polynomial) (t : ℕ) → Allowed p → 1 ≤ t → t ≤ 366 → horner p t ≡ of_int binary64 (X (coefficients_of p) t)
