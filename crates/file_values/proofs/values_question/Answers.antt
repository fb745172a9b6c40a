-- `file_values::values_question` meets its contract: what is answered of a profile is that profile's question.
use Rattle.std.proofs.Common.{arith, rules}
use Rattle.refusal.proofs.Questions.{asked-refuses, asked_more, asked_all}
use Rattle.file_values.proofs.values_question.Goals as goal

pub returns-in_err-profile_values_question : goal.returns-in_err-profile_values_question
returns-in_err-profile_values_question c =
    let asked = rw c.profile_length.ensures at c.profile_values_question.ensures in
    asked-refuses c.loop-k.invariant (omega arith) asked c.in_err-profile_values_question.was (search rules)

pub loop-k-preserved : goal.loop-k-preserved
loop-k-preserved c =
    let asked = rw c.profile_length.ensures at c.profile_values_question.ensures in
    asked_more c.loop-k.invariant (omega arith) asked c.in_ok-profile_values_question.was

pub returns : goal.returns
returns c = asked_all c.loop-k.invariant (omega arith)
