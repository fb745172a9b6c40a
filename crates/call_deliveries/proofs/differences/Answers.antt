-- `call_deliveries::differences` meets its contract: each refusal changes nothing, and else the differences fill the output.
use Rattle.std.proofs.Common.{◌≡◌, ◌∙◌, sym, ap, length, Err, rules}
use Rattle.call_open.proofs.Given.{opened-refused, opened-request, table_is, group-values}
use Rattle.call_deliveries.specs.Deliveries.{asked, whole_span}
use Rattle.call_deliveries.proofs.Answers.{length-periods, behind, accepted, span-opened, span-refused, behind-refused, delivered}
use Rattle.call_deliveries.proofs.differences.Goals as goal

pub returns-in_err-opening : goal.returns-in_err-opening
returns-in_err-opening c =
    let e : c.from_residual.result ≡ Err c.in_err-opening.field-0.0 = search rules in
    span-refused _ e (opened-refused _ _ c.in_err-opening.ensures.value)

pub returns-in_err-periods : goal.returns-in_err-periods
returns-in_err-periods c =
    let e : c.from_residual-in_err-periods.result ≡ Err c.in_err-periods.field-0.0 = search rules in
    let opened = opened-request _ c.in_ok-opening.ensures.value in
    behind-refused _ e opened.0 (opened-refused _ _ c.in_err-periods.ensures)

pub new-basis-requires-clause-group_values : goal.new-basis-requires-clause-group_values
new-basis-requires-clause-group_values c =
    let d = asked c.args.readings c.args.out.now in
    let opened = opened-request _ c.in_ok-opening.ensures.value in
    let periods = opened-request (behind d) c.in_ok-periods.ensures in
    group-values (whole_span d) (span-opened d (accepted d opened.0 periods.0) opened.1) c.table_at-values.ensures

pub fill-requires-clause-yearly_small : goal.fill-requires-clause-yearly_small
fill-requires-clause-yearly_small c =
    let d = asked c.args.readings c.args.out.now in
    let opened = opened-request _ c.in_ok-opening.ensures.value in
    let periods = opened-request (behind d) c.in_ok-periods.ensures in
    (accepted d opened.0 periods.0).yearly

pub fill-requires-clause-same : goal.fill-requires-clause-same
fill-requires-clause-same c =
    let d = asked c.args.readings c.args.out.now in
    let opened = opened-request _ c.in_ok-opening.ensures.value in
    let periods = opened-request (behind d) c.in_ok-periods.ensures in
    (accepted d opened.0 periods.0).counted.same ∙ sym (length-periods d.last d.starts) ∙ sym (ap length periods.1)

pub fill-requires-clause-room : goal.fill-requires-clause-room
fill-requires-clause-room c =
    let d = asked c.args.readings c.args.out.now in
    let opened = opened-request _ c.in_ok-opening.ensures.value in
    let periods = opened-request (behind d) c.in_ok-periods.ensures in
    rw (periods.1, length-periods d.last d.starts) (accepted d opened.0 periods.0).room

pub returns : goal.returns
returns c =
    let d = asked c.args.readings c.args.out.now in
    let opened = opened-request _ c.in_ok-opening.ensures.value in
    let periods = opened-request (behind d) c.in_ok-periods.ensures in
    let whole = span-opened d (accepted d opened.0 periods.0) opened.1 in
    delivered d opened.0 periods.0
    (rw (c.new-basis.ensures, table_is (whole_span d) whole c.table_at-values.ensures, periods.1) at c.fill.ensures)
