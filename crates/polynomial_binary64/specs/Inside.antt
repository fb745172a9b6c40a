-- What functions inside this crate require. No definition of documents 01 and 02.
use Rattle.std.specs.Prelude.{ℕ, ◌^◌, ◌≤◌, true, false, T, pos, Float}
use Rattle.std.specs.Float.{fin}
use Rattle.std.specs.Float.Ieee.{le, lt}

-- the number has a whole part that an i64 holds, and the limit is one up to which binary64 has every whole number
pub record InRange (x : Float) (most : ℕ) : Type 0 where
  pub low : T (le (fin true 1 (pos 63)) x)
  pub high : T (lt x (fin false 1 (pos 63)))
  pub limit : most ≤ 2 ^ 53
