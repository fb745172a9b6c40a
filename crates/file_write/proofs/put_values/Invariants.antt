-- What each turn of the loop keeps: what is stored and what is left to store come to all.
use Rattle.std.proofs.Common.{◌*◌, drop}
use Rattle.lists.proofs.Stores.{Storing}
use Rattle.big_endian.specs.BigEndian.{bytes_of}
use Rattle.file_write.proofs.put_values.Given as goal

abbrev pub invariant-loop-i : goal.invariant-loop-i
invariant-loop-i l = Storing l.initial.part 0 (bytes_of l.values) l.part (l.i * 2) (bytes_of (drop l.i l.values))
