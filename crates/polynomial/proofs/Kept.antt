-- The machine's signed results: a number m that the code works out is the integer z, whose size is at most b, and while b is below 2^63
-- nothing is lost. Assumes nothing.
use mathlib.Core.Path.{◌≡◌, ◌∙◌}
use Prim.Native.Nat.{ℕ, ◌+◌, ◌*◌, ◌^◌, ◌≤◌, ◌<◌}
use native.Mathlib.Omega.{arith}
use lib.IntN.{ℤ, pos, negsuc, ◌+ℤ◌, ◌*ℤ◌, nat_abs}
use lib.Signed.{mag}
use mir.Facts.{to_z-of_z, to_z_pos}
use mir.Syntax.{w64}
use mir.Val.{SFits, to_z, of_z}
use Rattle.polynomial.proofs.Integers.{size-grows, size-plus}

-- a result, read back from the bits in which the machine keeps it
abbrev pub kept : ℤ → ℤ
kept z = to_z w64 (of_z w64 z)

pub record Is (b : ℕ) (m z : ℤ) : Type 0 where
  pub same : m ≡ z
  pub size : nat_abs z ≤ b

small : (z : ℤ) {b : ℕ} → nat_abs z ≤ b → b < 2 ^ 63 → mag z < 2 ^ 63
small (pos n) h k = omega arith
small (negsuc n) h k = omega arith

pub fits : {b : ℕ} {m z : ℤ} → Is b m z → b < 2 ^ 63 → SFits w64 m
fits {b} {m} {z} is k = rw is.same (record { sfits = small z is.size k })

pub kept-is : {b : ℕ} {m z : ℤ} → Is b m z → b < 2 ^ 63 → Is b (kept m) z
kept-is is k = record { same = to_z-of_z (fits is k) ∙ is.same; size = is.size }

-- times a day of the year
pub times : (t : ℕ) → t ≤ 366 → {b : ℕ} {m z : ℤ} → Is b m z → Is (b * 366) (m *ℤ to_z w64 t) (z *ℤ pos t)
times t h {b} {m} {z} is =
    record {
      same = rw (is.same, to_z_pos w64 {n = t} (omega arith));
      size = size-grows z is.size h;
    }

pub plus : {a b : ℕ} {m n y z : ℤ} → Is a m y → Is b n z → Is (a + b) (m +ℤ n) (y +ℤ z)
plus {y = y} {z = z} first second =
    record { same = rw (first.same, second.same); size = omega (arith, size-plus y z, first.size, second.size) }
