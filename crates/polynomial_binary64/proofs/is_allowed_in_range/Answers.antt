-- `polynomial_binary64::is_allowed_in_range` meets its contract: an allowed number is the binary64 number of its whole part, and the
-- only other number that this part is equal to, negative zero, has other bits.
use Rattle.std.proofs.Common.{◌≡◌, true, ℤ, nat_abs, sym, ap, ◌∙◌, subst, arith, w64, to_z, of_z}
use lib.Ieee.{Float, binary64, of_bits, of_int}
use lib.Ieee.Bits.{of_bits-to_bits}
use Rattle.polynomial_binary64.specs.Binary64.{allowed, whole}
use Rattle.polynomial_binary64.proofs.Binary64.{holds, allowed-small, allowed-zero, not-allowed, same_bits, whole-signed}
use Rattle.polynomial_binary64.proofs.Casts.{kept}
use Rattle.polynomial_binary64.proofs.Range.{number-whole}
use Rattle.polynomial_binary64.proofs.is_allowed_in_range.Goals as goal

-- the whole part, read back from the bits in which the machine keeps it
abbrev part : ℤ → ℤ
part z = to_z w64 (of_z w64 z)

part-is : (x : Float) (z : ℤ) → z ≡ whole x → part z ≡ whole x
part-is x z e = ap part e ∙ kept x

pub returns-then-pattern-eq0 : goal.returns-then-pattern-eq0
returns-then-pattern-eq0 c =
    sym
    (subst (λ (y : Float). allowed c.args.most y ≡ true)
    (ap (of_bits binary64) (sym c.if-pattern-eq0.true) ∙ of_bits-to_bits binary64 c.args.x (holds c.well_formed.0.1))
    (allowed-zero c.args.most c.requires.limit))

pub returns-then-unsigned_abs-most : goal.returns-then-unsigned_abs-most
returns-then-unsigned_abs-most c =
    let is = part-is c.args.x c.truncating_f64_to_i64-whole.result c.truncating_f64_to_i64-whole.ensures in
    sym
    (not-allowed c.args.most c.args.x
    (λ yes. omega (arith, c.unsigned_abs.ensures, ap nat_abs is, allowed-small c.args.most c.args.x yes)))

pub float_to_bits-back : goal.float_to_bits-back
float_to_bits-back c =
    let z = part c.truncating_f64_to_i64-whole.result in
    number-whole (of_int binary64 z) (whole-signed z (omega (arith, c.unsigned_abs.ensures)))

pub returns : goal.returns
returns c =
    let z = c.truncating_f64_to_i64-whole.result in
    same_bits c.args.most c.args.x (part z) (holds c.well_formed.0.1) c.requires.limit
    (part-is c.args.x z c.truncating_f64_to_i64-whole.ensures)
    (omega (arith, c.unsigned_abs.ensures))
