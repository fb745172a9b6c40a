-- `file_values::profile_values_question` meets its contract: where the quick look passes, every value does.
use Rattle.std.proofs.Common.{arith, rules, sym, ◌+◌, ◌-◌, ◌*◌, ◌/◌, take, drop, length, length-take, length-drop, ◌≡◌}
use Rattle.refusal.proofs.Questions.{asked-refuses, asked_more, asked_all}
use Rattle.file_values.specs.Values.{value_question, profile_values_question}
use Rattle.file_values.proofs.Values.{upper-pass}
use Rattle.file_values.proofs.profile_values_question.Goals as goal

pub returns-then-upper_bytes-le-SAFE_UPPER_BYTE : goal.returns-then-upper_bytes-le-SAFE_UPPER_BYTE
unfolding profile_values_question
returns-then-upper_bytes-le-SAFE_UPPER_BYTE c =
    let start = c.args.at + c.args.layout.before in
    let values = c.args.layout.entries in
    let part = drop start c.args.file.now in
    let size : start + values * 2 - start ≡ values * 2 = omega arith in
    let count : length (take (values * 2) part) / 2 ≡ values = simp (length-take, length-drop) (omega arith) in
    let upper = rw (size, count) at c.upper_bytes.ensures in
    sym (upper-pass c.args.file.now start values c.upper_bytes.result upper (omega arith))

pub returns-in_err-value_question : goal.returns-in_err-value_question
unfolding profile_values_question value_question
returns-in_err-value_question c =
    let asked = rw c.word_at.ensures at c.value_question.ensures in
    asked-refuses c.loop-k.invariant (omega arith) asked c.in_err-value_question.was (search rules)

pub loop-k-preserved : goal.loop-k-preserved
unfolding value_question
loop-k-preserved c =
    let asked = rw c.word_at.ensures at c.value_question.ensures in
    asked_more c.loop-k.invariant (omega arith) asked c.in_ok-value_question.was

pub returns : goal.returns
unfolding profile_values_question
returns c = asked_all c.loop-k.invariant (omega arith)
