-- `file_write_values::values_question` meets its contract: what is asked of a part is its profile's question in the file.
use Rattle.std.proofs.Common.{◌∙◌, arith, rules}
use Rattle.refusal.proofs.Questions.{asked-refuses, asked_more, asked_all}
use Rattle.file_write_values.proofs.Values.{values-each, part-asked, part_given, parts_end}
use Rattle.file_write_values.proofs.values_question.Goals as goal

pub returns-in_err-profile_values_question : goal.returns-in_err-profile_values_question
returns-in_err-profile_values_question c codes each =
    let values = c.args.values.now in
    let k = c.in-Some.k in
    let turn = part_given {next = c.next.new.self} c.loop-k.invariant.0 k c.in-Some.part c.in-Some.ensures.steps in
    let asked = part-asked codes values each k (omega (arith, turn.1.inside)) c.in-Some.part.now turn.1.own c.profile_values_question.ensures in
    let loop = rw (← turn.0) at (c.loop-k.invariant.1 codes each) in
    asked-refuses loop (omega (arith, turn.1.inside)) asked c.in_err-profile_values_question.was (search rules) ∙ values-each codes values

pub loop-k-preserved : goal.loop-k-preserved
loop-k-preserved c =
    let values = c.args.values.now in
    let k = c.in-Some.k in
    let turn = part_given {next = c.next.new.self} c.loop-k.invariant.0 k c.in-Some.part c.in-Some.ensures.steps in (
      turn.1.left,
      λ codes each.
          let asked = part-asked codes values each k (omega (arith, turn.1.inside)) c.in-Some.part.now turn.1.own c.profile_values_question.ensures in
          let loop = rw (← turn.0) at (c.loop-k.invariant.1 codes each) in
          rw (turn.1.counted) (asked_more loop (omega (arith, turn.1.inside)) asked c.in_ok-profile_values_question.was),
    )

pub returns : goal.returns
returns c codes each =
    let values = c.args.values.now in
    let end = parts_end {next = c.next.new.self} c.loop-k.invariant.0 c.in-None.ensures.steps in
    asked_all (c.loop-k.invariant.1 codes each) (omega (arith, end)) ∙ values-each codes values
