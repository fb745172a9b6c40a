-- `file_compare::compare` meets its contract: the two found parts agree exactly where the groups' tables do.
use Rattle.std.proofs.Common.{ap, ℕ, ◌<◌, arith}
use Rattle.big_endian.specs.BigEndian.{byte_at}
use Rattle.file_compare.specs.Comparing.{reported}
use Rattle.file_compare.proofs.Bytes.{said-alike, said-different}
use Rattle.file_compare.proofs.compare.Goals as goal

pub returns-then-eq : goal.returns-then-eq
returns-then-eq c =
    let file = c.args.bytes.now in
    let byte : (i : ℕ) → byte_at file i < 256 = λ i. omega (arith, c.type_inv.bytes i) in
    let one = rw c.in_ok-file.ensures.value.1 at c.in_ok-find.ensures.value in
    let other = rw c.in_ok-file.ensures.value.1 at c.in_ok-find-2.ensures.value in
    let bytes = rw (c.value_bytes-one.ensures.bytes, c.value_bytes-other.ensures.bytes) at c.if-eq.ensures in
    let h = said-alike file byte c.args.first c.args.second c.in_ok-file.ensures.value.0 one other bytes in
    record { value = h; result_value = ap reported h }

pub returns-else-eq : goal.returns-else-eq
returns-else-eq c =
    let file = c.args.bytes.now in
    let byte : (i : ℕ) → byte_at file i < 256 = λ i. omega (arith, c.type_inv.bytes i) in
    let one = rw c.in_ok-file.ensures.value.1 at c.in_ok-find.ensures.value in
    let other = rw c.in_ok-file.ensures.value.1 at c.in_ok-find-2.ensures.value in
    let bytes = rw (c.value_bytes-one.ensures.bytes, c.value_bytes-other.ensures.bytes) at c.if-eq.ensures in
    let h = said-different file byte c.args.first c.args.second c.in_ok-file.ensures.value.0 one other bytes in
    record { value = h; result_value = ap reported h }
