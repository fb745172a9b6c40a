-- What the definitions of Binary64.antt come to. Proved in proofs/Whole.antt.
use Rattle.std.specs.Prelude.{◌≡◌, ℕ, ◌^◌, ◌≤◌, Bool, true, false, T, ℤ, from_bits, unsigned_abs, Float}
use Rattle.std.specs.Float.{nan, inf, binary64}
use Rattle.std.specs.Float.Ieee.{fits, of_int}
use Rattle.polynomial.specs.Polynomial.{implied}
use Rattle.polynomial_binary64.specs.Binary64.{whole, allowed, Allowed, coefficients_of, binary64_of}

-- c is the binary64 number of a whole number in size at most `most`. of_int gives zero without a sign, so c is not negative zero.
pub record IsWhole (most : ℕ) (c : Float) : Type 0 where
  pub number : ℤ
  pub small : unsigned_abs number ≤ most
  pub same : c ≡ of_int binary64 number

-- a whole number in size at most `most` is allowed, and read back from its binary64 number
pub record ComesBack (most : ℕ) (z : ℤ) : Type 0 where
  pub passes : allowed most (of_int binary64 z) ≡ true
  pub back : whole (of_int binary64 z) ≡ z

-- "Each must be a whole number, not negative zero, and in size at most" its limit: the binary64 numbers that are allowed are those
-- of the whole numbers within the limit, and all of these. 2^53 is above every limit.
unfoldable pub AllowedIsWhole : Type 0
AllowedIsWhole =
    (most : ℕ) → most ≤ 2 ^ 53 →
    ((c : Float) → T (fits binary64 c) → allowed most c ≡ true → IsWhole most c) × ((z : ℤ) → unsigned_abs z ≤ most → ComesBack most z)

-- "not negative zero", whose bits are the sign alone; nor a NaN or an infinity
unfoldable pub OthersRefused : Type 0
OthersRefused =
    (most : ℕ) →
    (allowed most (from_bits binary64 0x8000_0000_0000_0000) ≡ false) × (allowed most nan ≡ false)
    × ((negative : Bool) → allowed most (inf negative) ≡ false)

-- "its implied polynomials": as binary64 numbers they are allowed, and the whole numbers read from them are theirs
unfoldable pub ImpliedAllowed : Type 0
ImpliedAllowed =
    (code : ℕ) → Allowed (binary64_of (implied code)) × (coefficients_of (binary64_of (implied code)) ≡ implied code)
