-- `polynomial_binary64::implied` meets its contract: the bits of each number written are those of the whole number.
use Rattle.std.proofs.Common.{◌≡◌, ℕ, zero, suc, ◌<◌, refl, arith}
use lib.Ieee.{of_bits, of_int, neg}
use Rattle.polynomial.specs.Polynomial.{implied, factor_one}
use Rattle.polynomial_binary64.proofs.implied.Goals as goal

implied-other : (code : ℕ) → 0 < code → implied code ≡ factor_one
implied-other zero other = absurd (omega arith)
implied-other (suc code) other = refl

pub returns-then-code-eq0 : goal.returns-then-code-eq0
unfolding of_bits of_int neg
returns-then-code-eq0 c =
    let code = c.args.code in
    let households : code ≡ 0 = omega arith in
    rw households refl

pub returns-else-code-eq0 : goal.returns-else-code-eq0
unfolding of_bits of_int neg
returns-else-code-eq0 c =
    let code = c.args.code in
    let other : 0 < code = omega arith in
    rw (implied-other code other) refl
