-- A field has its width. Assumes nothing.
use mathlib.Core.Path.{◌≡◌}
use Prim.Native.Nat.{ℕ, ◌-◌, ◌^◌, ◌≤◌, ◌<◌}
use native.Mathlib.Omega.{arith}
use lib.ListN.{length, length-append, length-replicate}
use Rattle.text.specs.Text.{space, decimal_text}
use Rattle.text.proofs.Text.{decimal-short}
use Rattle.text_columns.specs.Columns.{right_aligned}

pub length-right : (width n : ℕ) → 1 ≤ width → n < 10 ^ width → length (right_aligned width n) ≡ width
unfolding right_aligned
length-right width n some fits =
    let many = length-replicate (width - length (decimal_text n)) space in
    let short = decimal-short n width fits some in
    simp length-append (omega arith)
