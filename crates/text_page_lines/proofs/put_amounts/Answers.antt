-- `text_page_lines::put_amounts` meets its contract: the parts, put one behind the other, are the end of the line.
use Rattle.std.proofs.Common.{arith}
use Rattle.text.proofs.Puts.{behind}
use Rattle.text_page_lines.proofs.PageLines.{amounts-length}
use Rattle.text_page_lines.proofs.put_amounts.Goals as goal

pub returns-clause-put : goal.returns-clause-put
returns-clause-put c =
    let long = amounts-length c.args.count c.args.watt_hours c.requires.count_bound c.requires.watt_hours_bound in
    behind c.put_byte.ensures
    (behind c.put_right_aligned.ensures.put
    (behind c.put_byte-2.ensures (behind c.put_right_aligned-2.ensures.put (λ _. c.put_byte-3.ensures))))
    (omega arith)
