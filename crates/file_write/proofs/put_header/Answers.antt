-- `file_write::put_header` meets its contract: its stores, one after the other, are the header's bytes.
use Rattle.std.proofs.Common.{arith}
use Rattle.lists.proofs.Stores.{part-stored}
use Rattle.big_endian.specs.BigEndian.{bytes_of}
use Rattle.file_layout.specs.Header.{mark}
use Rattle.file_write.proofs.put_header.Goals as goal

pub returns : goal.returns
unfolding bytes_of
returns c =
    let marked = part-stored c.args.buffer.now c.copy_from_slice.new.self mark 0 3 c.copy_from_slice.ensures.after (omega arith) (omega arith) in
    rw (c.put_word.ensures, marked)
