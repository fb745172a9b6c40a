-- `file_read::fill` meets its contract: entry by entry the table is the part's values.
use Rattle.std.proofs.Common.{◌∙◌, sym, ◌*◌, ◌/◌, length, arith}
use Rattle.std.proofs.lemmas.Grind.{same_number_lists}
use native.Mathlib.Nat.{zero-add}
use Rattle.lists.proofs.Strides.{length-places, get_or-places}
use Rattle.big_endian.specs.BigEndian.{word_at}
use Rattle.big_endian.specs.Inside.{words_of}
use Rattle.file_read.proofs.fill.Goals as goal

pub returns : goal.returns
returns c =
    let part = c.args.part.now in
    let l = c.loop-i in
    same_number_lists l.table (words_of part) (omega (arith, length-places (word_at part) 2 (length part / 2) 0))
    (λ k h.
    let value = get_or-places (word_at part) 2 (length part / 2) 0 k 0 (omega arith) in
    l.invariant k (omega arith) ∙ sym (rw (zero-add (k * 2)) at value))
