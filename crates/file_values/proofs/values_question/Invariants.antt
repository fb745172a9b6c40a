-- What each turn of the loop keeps: the profiles that were asked passed.
use Rattle.refusal.proofs.Questions.{Asked}
use Rattle.file_layout.specs.Header.{header_length, profile_length}
use Rattle.file_values.specs.Values.{profile_values_question}
use Rattle.file_values.proofs.values_question.Given as goal

abbrev pub invariant-loop-k : goal.invariant-loop-k
invariant-loop-k l = Asked (profile_values_question l.layout l.file) (profile_length l.layout) l.layout.count header_length l.k
