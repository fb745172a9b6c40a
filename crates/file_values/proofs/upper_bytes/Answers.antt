-- `file_values::upper_bytes` meets its contract: the closure joins a chunk, and the chunks are the values.
use Rattle.std.proofs.Common.{arith, rules}
use Rattle.file_values.proofs.Values.{join, upper-joined}
use Rattle.file_values.proofs.upper_bytes.Goals as goal

pub returns : goal.returns
returns c =
    let run = c.fold.ensures.runs in
    upper-joined c.args.values.now c.fold.result run.0 c.args.values (λ i. omega (arith, c.type_inv.values i)) run.2
    (rw run.1 (omega arith))
    (rw run.1 (cc))
    (c.chunks_exact.ensures.runs run.0 run.0.seen (rw run.1 (omega arith)))
    (run.3 join (λ x y r q k. search rules))
