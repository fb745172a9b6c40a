-- `PageLine::put` of `text_page_lines` meets its contract: the parts, put one behind the other, are the line.
use Rattle.std.proofs.Common.{arith}
use Rattle.text.proofs.Puts.{behind}
use Rattle.text_fields.specs.Inside.{row_in}
use Rattle.text_page_lines.specs.PageLines.{page_line}
use Rattle.text_page_lines.proofs.PageLines.{day-line-length}
use Rattle.text_page_lines.proofs.PageLineDayLine.put.Goals as goal

pub returns-clause-put : goal.returns-clause-put
unfolding page_line
returns-clause-put c =
    let e = c.args.entry.now in
    let long = day-line-length e.kind (row_in e) c.requires.count_bound c.requires.watt_hours_bound in
    behind c.put_date.ensures
    (behind c.put_byte.ensures (behind c.put_day_type.ensures (λ _. c.put_amounts.ensures.put)))
    (omega arith)
