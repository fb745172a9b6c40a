-- What each turn of the loop keeps: the values that were asked passed.
use Rattle.std.proofs.Common.{◌+◌}
use Rattle.refusal.proofs.Questions.{Asked}
use Rattle.file_values.specs.Values.{value_question}
use Rattle.file_values.proofs.profile_values_question.Given as goal

abbrev pub invariant-loop-k : goal.invariant-loop-k
invariant-loop-k l = Asked (value_question l.file) 2 l.fn.layout.entries (l.at + l.fn.layout.before) l.k
