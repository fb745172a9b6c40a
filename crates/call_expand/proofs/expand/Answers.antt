-- `call_expand::expand` meets its contract: each refusal changes nothing, and else the period's figures fill the output.
use Rattle.std.proofs.Common.{◌≡◌, sym, ◌∙◌, Err, length, rules}
use Rattle.refusal.proofs.Questions.{room-passed}
use Rattle.call_request.specs.Request.{asked}
use Rattle.call_request.proofs.Sound.{series-length}
use Rattle.call_open.proofs.Given.{opened-refused, opened-for, room-needed, group-values, same-quarters}
use Rattle.call_expand.proofs.Expanding.{request-refused, room-refused, expanded}
use Rattle.call_expand.proofs.expand.Goals as goal

pub returns-in_err-opening : goal.returns-in_err-opening
returns-in_err-opening c =
    let e : c.from_residual.result ≡ Err c.in_err-opening.field-0.0 = search rules in
    request-refused _ e (opened-refused _ _ c.in_err-opening.ensures.value)

pub returns-in_err-room_question : goal.returns-in_err-room_question
returns-in_err-room_question c =
    let q = asked c.args.request c.args.out.now in
    let o = opened-for q c.in_ok-opening.ensures.value in
    let e : c.from_residual-in_err-room_question.result ≡ Err c.in_err-room_question.field-0.0 = search rules in
    room-refused _ e o.passed (sym (c.in_err-room_question.ensures ∙ room-needed q o (length c.args.out.now)))

pub new-basis-requires-clause-group_values : goal.new-basis-requires-clause-group_values
new-basis-requires-clause-group_values c =
    let q = asked c.args.request c.args.out.now in
    group-values q (opened-for q c.in_ok-opening.ensures.value) c.table_at-values.ensures

pub expand_days-made-requires-clause-in_range : goal.expand_days-made-requires-clause-in_range
expand_days-made-requires-clause-in_range c =
    let s = (opened-for (asked c.args.request c.args.out.now) c.in_ok-opening.ensures.value).sound in
    record { yearly_small = s.yearly; carry_small = s.carry }

pub expand_days-made-requires-clause-room : goal.expand_days-made-requires-clause-room
expand_days-made-requires-clause-room c =
    let q = asked c.args.request c.args.out.now in
    let o = opened-for q c.in_ok-opening.ensures.value in
    let room = room-passed _ _ (sym (c.in_ok-room_question.ensures ∙ room-needed q o (length c.args.out.now))) in
    rw (c.new-basis.ensures, same-quarters q o c.table_at-values.ensures, ← series-length q) room

pub returns : goal.returns
returns c =
    let q = asked c.args.request c.args.out.now in
    let o = opened-for q c.in_ok-opening.ensures.value in
    let same = same-quarters q o c.table_at-values.ensures in
    let room = sym (c.in_ok-room_question.ensures ∙ room-needed q o (length c.args.out.now)) in
    let made = c.expand_days-made.ensures in
    expanded q o.passed room
    (record { stored = rw (c.new-basis.ensures, same) at made.stored; totals = rw (c.new-basis.ensures, same) at made.totals })
