-- What each turn of the loop keeps: the values that were asked passed, in any file that has them.
use Rattle.std.proofs.Common.{◌≡◌, ℕ, List, length}
use Rattle.big_endian.specs.BigEndian.{words_from}
use Rattle.refusal.proofs.Questions.{Asked}
use Rattle.file_values.specs.Values.{value_question}
use Rattle.file_write_values.proofs.profile_values_question.Given as goal

abbrev pub invariant-loop-i : goal.invariant-loop-i
invariant-loop-i l = (file : List ℕ) → words_from file (length l.values) l.at ≡ l.values → Asked (value_question file) 2 (length l.values) l.at l.i
