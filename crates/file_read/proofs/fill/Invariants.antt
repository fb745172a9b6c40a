-- What each turn of the loop keeps: the entries before this one are filled.
use Rattle.std.proofs.Common.{◌≡◌, ℕ, ◌*◌, ◌<◌, get_or}
use Rattle.big_endian.specs.BigEndian.{word_at}
use Rattle.file_read.proofs.fill.Given as goal

abbrev pub invariant-loop-i : goal.invariant-loop-i
invariant-loop-i l = (k : ℕ) → k < l.i → get_or l.table k 0 ≡ word_at l.part (k * 2)
