-- `program_answer::put_answer` meets its contract: the days of an accepted request are listed from its group's values.
use Rattle.std.proofs.Common.{[], arith}
use Rattle.call_request.specs.Request.{asked, request}
use Rattle.call_open.proofs.Given.{opened-for, table_is, group-values}
use Rattle.program_answer.specs.Answer.{lines_for}
use Rattle.program_answer.proofs.Accepted.{accepted}
use Rattle.program_answer.proofs.put_answer.Goals as goal

pub new-basis-requires-clause-group_values : goal.new-basis-requires-clause-group_values
new-basis-requires-clause-group_values c =
    group-values _ (opened-for (request _ _ _ _ _ _ _ []) c.in-Ok.ensures.value) c.table_at-values.ensures

pub list_days-totals-requires-clause-in_range : goal.list_days-totals-requires-clause-in_range
list_days-totals-requires-clause-in_range c =
    let s = (opened-for (request _ _ _ _ _ _ _ []) c.in-Ok.ensures.value).sound in
    record { yearly_small = omega (arith, s.yearly); carry_small = omega (arith, s.carry) }

pub returns : goal.returns
unfolding lines_for
returns c =
    let q = asked c.args.request [] in
    let o = opened-for q c.in-Ok.ensures.value in
    rw o.passed
    (accepted q o.passed (table_is q o c.table_at-values.ensures) o.period (rw c.new-basis.ensures at c.list_days-totals.ensures)
    (rw c.days.ensures.same at c.put_last_line.ensures) c.requires)
