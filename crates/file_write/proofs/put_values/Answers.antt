-- `file_write::put_values` meets its contract: each value's bytes stand behind those of the values before it.
use Rattle.std.proofs.Common.{◌∙◌, [], ◌∷◌, ◌*◌, ◌≤◌, get_or, length, arith}
use mathlib.Core.List.{append-nil}
use lib.ListN.{drop_of_length-le}
use Rattle.lists.proofs.Stores.{some_stored, all-stored, stored-first}
use Rattle.big_endian.specs.BigEndian.{bytes_of}
use Rattle.file_written.proofs.Written.{length-bytes}
use Rattle.file_write.proofs.Buffer.{values-next, values-done}
use Rattle.file_write.proofs.put_values.Goals as goal

pub loop-i-preserved : goal.loop-i-preserved
unfolding bytes_of
loop-i-preserved c =
    let l = c.loop-i in
    let values = c.args.values.now in
    some_stored l.invariant (bytes_of (get_or values l.i 0 ∷ [])) (values-next values l.i (omega arith)) c.put_word.ensures (omega arith)

pub returns : goal.returns
returns c =
    let values = c.args.values.now in
    let part = c.args.part.now in
    let size = length-bytes values in
    let all : length part ≤ length values * 2 = omega arith in
    all-stored c.loop-i.invariant (values-done values c.loop-i.i (omega arith))
    ∙ stored-first (bytes_of values) part size (omega arith)
    ∙ rw (drop_of_length-le part all, append-nil (bytes_of values))
