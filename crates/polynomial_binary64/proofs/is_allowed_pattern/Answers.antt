-- `polynomial_binary64::is_allowed_pattern` meets its contract: the border is that of the NaN patterns.
use Rattle.std.proofs.Common.{◌≡◌, ℕ, true, sym, subst, arith}
use lib.Ieee.{binary64, of_bits}
use Rattle.polynomial_binary64.specs.Binary64.{allowed}
use Rattle.polynomial_binary64.proofs.Binary64.{allowed-zero}
use Rattle.polynomial_binary64.proofs.Pattern.{nan-refused, number}
use Rattle.polynomial_binary64.proofs.is_allowed_pattern.Goals as goal

pub returns-then-bits-eq0 : goal.returns-then-bits-eq0
returns-then-bits-eq0 c =
    let a = c.args in
    let zero_pattern : a.bits ≡ 0 = omega arith in
    sym
    (subst (λ (n : ℕ). allowed a.most (of_bits binary64 n) ≡ true) (sym zero_pattern) (allowed-zero a.most c.requires))

pub returns-then-bits-gt9218868437227405312 : goal.returns-then-bits-gt9218868437227405312
returns-then-bits-gt9218868437227405312 c = let a = c.args in sym (nan-refused a.most a.bits (omega arith))

pub float_from_bits-bits : goal.float_from_bits-bits
float_from_bits-bits c = number c.args.bits (omega arith)
