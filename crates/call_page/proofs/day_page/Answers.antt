-- `call_page::day_page` meets its contract: each refusal changes nothing, and else the lines of the days and the last one fill the page.
use Rattle.std.proofs.Common.{◌≡◌, refl, sym, ◌∙◌, ℕ, ◌≤◌, length, Err, arith, rules}
use Rattle.refusal.specs.Questions.{Verdict, Pass}
use Rattle.call_request.specs.Request.{Request, asked, days_in}
use Rattle.call_open.specs.declared.Opening.{Opening}
use Rattle.call_open.proofs.Given.{opened-refused, OpenedFor, opened-for, table_is, group-values}
use Rattle.call_page.specs.Page.{bytes_needed, page_question}
use Rattle.call_page.proofs.Page.{page-passed, request-refused, page-refused, printed}
use Rattle.call_page.proofs.day_page.Goals as goal

-- question 19 of an opened request, as its days ask it; where it passed, the lines have room
module _ (q : Request) {o : Opening} (opened : OpenedFor q o) {days : ℕ} (counted : days ≡ o.period.days) {v : Verdict}
    (asks : v ≡ page_question days (length q.output)) where
  question : v ≡ page_question (days_in q) (length q.output)
  question = rw (counted, opened.period) at asks

  room : v ≡ Pass → bytes_needed o.period.days ≤ length q.output
  room passed = rw counted at (page-passed _ _ (sym asks ∙ passed))

pub returns-in_err-opening : goal.returns-in_err-opening
returns-in_err-opening c =
    let e : c.from_residual.result ≡ Err c.in_err-opening.field-0.0 = search rules in
    request-refused _ e (opened-refused _ _ c.in_err-opening.ensures.value)

pub returns-in_err-page_question : goal.returns-in_err-page_question
returns-in_err-page_question c =
    let q = asked c.args.request c.args.page.now in
    let o = opened-for q c.in_ok-opening.ensures.value in
    let e : c.from_residual-in_err-page_question.result ≡ Err c.in_err-page_question.field-0.0 = search rules in
    page-refused q e o.passed (sym (question q o c.days.ensures.same c.in_err-page_question.ensures))

pub new-basis-requires-clause-group_values : goal.new-basis-requires-clause-group_values
new-basis-requires-clause-group_values c =
    let q = asked c.args.request c.args.page.now in
    group-values q (opened-for q c.in_ok-opening.ensures.value) c.table_at-values.ensures

pub list_days-totals-requires-clause-in_range : goal.list_days-totals-requires-clause-in_range
list_days-totals-requires-clause-in_range c =
    let s = (opened-for (asked c.args.request c.args.page.now) c.in_ok-opening.ensures.value).sound in
    record { yearly_small = s.yearly; carry_small = omega (arith, s.carry) }

pub list_days-totals-requires-clause-room : goal.list_days-totals-requires-clause-room
list_days-totals-requires-clause-room c =
    let q = asked c.args.request c.args.page.now in
    let o = opened-for q c.in_ok-opening.ensures.value in
    omega (arith, room q o c.days.ensures.same c.in_ok-page_question.ensures refl)

pub put_last_line-requires-clause-room : goal.put_last_line-requires-clause-room
put_last_line-requires-clause-room c =
    let q = asked c.args.request c.args.page.now in
    let o = opened-for q c.in_ok-opening.ensures.value in
    let l = c.list_days-totals.ensures in
    omega (arith, l.short, l.lines.kept, room q o c.days.ensures.same c.in_ok-page_question.ensures refl)

pub returns : goal.returns
returns c =
    let q = asked c.args.request c.args.page.now in
    let o = opened-for q c.in_ok-opening.ensures.value in
    let l = c.list_days-totals.ensures in
    let same = l.lines.same_page in
    printed q o.passed (sym (question q o c.days.ensures.same c.in_ok-page_question.ensures)) refl refl
    (rw (c.new-basis.ensures, table_is q o c.table_at-values.ensures, o.period) at l) c.put_last_line.ensures (search rules)
