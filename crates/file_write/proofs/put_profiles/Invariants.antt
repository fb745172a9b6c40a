-- What each turn of the loop keeps: what is stored and what is left to store come to all.
use Rattle.std.proofs.Common.{◌+◌, ◌*◌, length}
use Rattle.std.specs.Iterator.Adapters.{enumerate_count}
use Rattle.lists.proofs.Stores.{Storing}
use Rattle.file_written.specs.Written.{profiles_of}
use Rattle.file_write.proofs.Buffer.{Paired, codes_left, values_left}
use Rattle.file_write.proofs.put_profiles.Given as goal

abbrev pub invariant-loop-i : goal.invariant-loop-i
invariant-loop-i l =
    Paired (length l.profiles.codes.now) l.i-iterator
    × Storing l.initial.buffer 6 (profiles_of 864 l.profiles.codes.now l.profiles.values.now) l.buffer (6 + enumerate_count l.i-iterator * 1729)
    (profiles_of 864 (codes_left l.i-iterator) (values_left l.i-iterator))
