-- `text_program_lines::put_last_line` meets its contract: the parts, put one behind the other, are the line.
use Rattle.std.proofs.Common.{arith}
use Rattle.text.proofs.Text.{decimal_most}
use Rattle.text.proofs.Puts.{behind}
use Rattle.text_program_lines.specs.Lengths.{last-line-short}
use Rattle.text_program_lines.specs.Lines.{last_line}
use Rattle.text_program_lines.proofs.put_last_line.Goals as goal

pub put_field-requires-2 : goal.put_field-requires-2
put_field-requires-2 c = omega (arith, decimal_most c.args.days)

pub put_field-requires-3 : goal.put_field-requires-3
put_field-requires-3 c =
    let t = c.args.t in
    omega (arith, decimal_most c.args.days, decimal_most t.count)

pub put_field-requires-4 : goal.put_field-requires-4
put_field-requires-4 c =
    let t = c.args.t in
    omega (arith, decimal_most c.args.days, decimal_most t.count, decimal_most t.total)

pub put_byte-requires : goal.put_byte-requires
put_byte-requires c =
    let t = c.args.t in
    omega (arith, decimal_most c.args.days, decimal_most t.count, decimal_most t.total, decimal_most t.carry)

pub returns : goal.returns
unfolding last_line
returns c =
    behind c.put_word.ensures
    (behind c.put_field.ensures
    (behind c.put_field-2.ensures
    (behind c.put_field-3.ensures (behind c.put_field-4.ensures (λ _. c.put_byte.ensures)))))
    (omega (arith, last-line-short c.args.days c.args.t))
