-- What each turn of the loop keeps: the profiles that were asked passed, with any codes.
use Rattle.std.proofs.Common.{◌≡◌, ℕ, ◌*◌, List, length}
use Rattle.std.specs.Iterator.Adapters.{enumerate_count}
use Rattle.refusal.proofs.Questions.{Asked}
use Rattle.file_write_values.proofs.Values.{file_values, PartsLeft}
use Rattle.file_write_values.proofs.values_question.Given as goal

abbrev pub invariant-loop-k : goal.invariant-loop-k
invariant-loop-k l =
    PartsLeft l.values l.k-iterator
    × ((codes : List ℕ) → length l.values ≡ length codes * 864 →
    Asked (file_values codes l.values) 1729 (length codes) 6 (enumerate_count l.k-iterator))
