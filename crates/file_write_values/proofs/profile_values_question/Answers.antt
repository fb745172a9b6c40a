-- `file_write_values::profile_values_question` meets its contract: what is asked of a value is that value's question in the file.
use Rattle.std.proofs.Common.{◌∙◌, arith, rules}
use Rattle.refusal.proofs.Questions.{asked-refuses, asked_more, asked_all}
use Rattle.file_write_values.proofs.Values.{value-asked, highest-pass}
use Rattle.file_write_values.proofs.profile_values_question.Goals as goal

pub returns-then-highest_value-le-HIGHEST_VALUE : goal.returns-then-highest_value-le-HIGHEST_VALUE
returns-then-highest_value-le-HIGHEST_VALUE c file stand = highest-pass file c.args.values.now c.args.at stand (omega arith)

pub returns-in_err-value_question : goal.returns-in_err-value_question
returns-in_err-value_question c file stand =
    let i = c.loop-i.i in
    let asked = c.value_question.ensures ∙ value-asked file c.args.values.now c.args.at stand i (omega arith) in
    asked-refuses (c.loop-i.invariant file stand) (omega arith) asked c.in_err-value_question.was (search rules)

pub loop-i-preserved : goal.loop-i-preserved
loop-i-preserved c file stand =
    let i = c.loop-i.i in
    let asked = c.value_question.ensures ∙ value-asked file c.args.values.now c.args.at stand i (omega arith) in
    asked_more (c.loop-i.invariant file stand) (omega arith) asked c.in_ok-value_question.was

pub returns : goal.returns
returns c file stand = asked_all (c.loop-i.invariant file stand) (omega arith)
