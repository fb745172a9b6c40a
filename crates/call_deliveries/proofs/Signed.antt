-- A difference of two numbers that fit an i64 fits it, and the machine works it out. Assumes nothing.
use mathlib.Core.Path.{◌≡◌, ◌∙◌}
use mathlib.Core.Bool.{Bool, true, false, cond}
use Prim.Native.Nat.{ℕ, zero, suc, ◌-◌, ◌^◌, ◌<◌}
use native.Mathlib.Omega.{arith}
use lib.Dec.{ltb}
use lib.IntN.{pos, negsuc, ◌-ℤ◌}
use mir.Facts.{to_z-of_z, to_z_pos}
use mir.Syntax.{w64}
use mir.Val.{SFits, to_z, of_z}

either-fits : (t : Bool) (x y : ℕ) → x < 2 ^ 63 → y < 2 ^ 63 → SFits w64 (cond t (negsuc x) (pos y))
either-fits true x y h k = record { sfits = h }
either-fits false x y h k = record { sfits = k }

difference-fits : (a b : ℕ) → a < 2 ^ 63 → b < 2 ^ 63 → SFits w64 (pos a -ℤ pos b)
difference-fits a zero h k = record { sfits = omega arith }
difference-fits a (suc b) h k = either-fits (ltb a (suc b)) (suc b - suc a) (a - suc b) (omega arith) (omega arith)

module _ (a b : ℕ) (h : a < 2 ^ 63) (k : b < 2 ^ 63) where
  pub machine-fits : SFits w64 (to_z w64 a -ℤ to_z w64 b)
  machine-fits = rw (to_z_pos w64 h, to_z_pos w64 k) (difference-fits a b h k)

  pub machine-difference : to_z w64 (of_z w64 (to_z w64 a -ℤ to_z w64 b)) ≡ pos a -ℤ pos b
  machine-difference = to_z-of_z machine-fits ∙ rw (to_z_pos w64 h, to_z_pos w64 k)
