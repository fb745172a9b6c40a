-- Document 02, (f): the polynomial as a file of version 2 has it, "five 8-byte binary64 numbers .. for t^4 down to t^0".
use Rattle.std.specs.Prelude.{◌≡◌, ℕ, Bool, true, ◌&&◌, ℤ, nat_le, unsigned_abs, Float}
use Rattle.std.specs.Float.{binary64}
use Rattle.std.specs.Float.Ieee.{of_int, to_signed, in_signed}
use Rattle.polynomial.specs.declared.Coefficients.{Coefficients}
use Rattle.polynomial.specs.Polynomial.{coefficients, limit}
use Rattle.polynomial_binary64.specs.declared.Polynomial.{Polynomial}

-- the whole number that a binary64 number is, where it is one
abbrev pub whole : Float → ℤ
whole c = to_signed 63 c

abbrev pub coefficients_of : Polynomial → Coefficients
coefficients_of p = coefficients (whole p.t4) (whole p.t3) (whole p.t2) (whole p.t1) (whole p.t0)

-- whole numbers as binary64 numbers
abbrev pub binary64_of : Coefficients → Polynomial
binary64_of c =
    record {
      t4 = of_int binary64 c.t4;
      t3 = of_int binary64 c.t3;
      t2 = of_int binary64 c.t2;
      t1 = of_int binary64 c.t1;
      t0 = of_int binary64 c.t0;
    }

-- "Each must be a whole number, not negative zero, and in size at most" its limit
unfoldable pub allowed : ℕ → Float → Bool
allowed most c = in_signed binary64 63 c && nat_le (unsigned_abs (whole c)) most

pub record Allowed (p : Polynomial) : Type 0 where
  pub allowed4 : allowed (limit 0) p.t4 ≡ true
  pub allowed3 : allowed (limit 1) p.t3 ≡ true
  pub allowed2 : allowed (limit 2) p.t2 ≡ true
  pub allowed1 : allowed (limit 3) p.t1 ≡ true
  pub allowed0 : allowed (limit 4) p.t0 ≡ true
