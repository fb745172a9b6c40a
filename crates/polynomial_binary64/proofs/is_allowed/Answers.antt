-- `polynomial_binary64::is_allowed` meets its contract: the two tests are the range, written by the bits of its ends, and no allowed
-- number is outside.
use Rattle.std.proofs.Common.{T, sym, subst}
use lib.Ieee.{of_bits, neg}
use Rattle.polynomial_binary64.proofs.Binary64.{holds, allowed-signed, not-allowed}
use Rattle.polynomial_binary64.proofs.Range.{not-below, below}
use Rattle.polynomial_binary64.proofs.is_allowed.Goals as goal
use Rattle.polynomial_binary64.proofs.is_allowed.Goals.{else-x-via-then-x+else-x-2, else-x-via-else-x}

pub is_allowed_in_range-requires : goal.is_allowed_in_range-requires
unfolding of_bits neg
is_allowed_in_range-requires c =
    record { low = holds c.if-x.true; high = holds c.if-x-2.true; limit = c.requires }

-- no allowed number fails one of the two tests
pub returns : goal.returns
unfolding of_bits neg
returns c =
    let x = c.args.x in
    let most = c.args.most in
    sym
    (not-allowed most x
    (λ yes.
    let signed = allowed-signed most x yes in
    elim c.else-x.branch [
      | else-x-via-then-x+else-x-2 w ↦ subst T w.if-x-2.false (below x signed)
      | else-x-via-else-x w ↦ subst T w.if-x.false (not-below x signed)
    ]))
