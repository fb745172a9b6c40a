-- What the parts of the range test ensure. No definition of documents 01 and 02.
use Rattle.std.specs.Prelude.{◌≡◌, pos}
use Rattle.polynomial.specs.declared.Coefficients.{Coefficients}

-- a polynomial whose value is the same on every day
pub record Constant (c : Coefficients) : Type 0 where
  pub zero4 : c.t4 ≡ pos 0
  pub zero3 : c.t3 ≡ pos 0
  pub zero2 : c.t2 ≡ pos 0
  pub zero1 : c.t1 ≡ pos 0
