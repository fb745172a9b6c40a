-- `ProgramLine::put` of `text_program_lines` meets its contract: the parts, put one behind the other, are the line.
use Rattle.std.proofs.Common.{arith}
use Rattle.text.proofs.Text.{decimal-short, decimal_most}
use Rattle.text.proofs.Puts.{behind}
use Rattle.text_fields.specs.Inside.{row_in}
use Rattle.text_program_lines.specs.Lengths.{day-line-short}
use Rattle.text_program_lines.specs.Lines.{day_line}
use Rattle.text_program_lines.proofs.ProgramLineDayLine.put.Goals as goal

pub put_field-requires-2 : goal.put_field-requires-2
put_field-requires-2 c = omega (arith, decimal-short c.args.entry.now.count 3 c.requires.count_bound (omega arith))

pub put_byte-requires-2 : goal.put_byte-requires-2
put_byte-requires-2 c =
    let e = c.args.entry.now in
    omega (arith, decimal-short e.count 3 c.requires.count_bound (omega arith), decimal_most e.watt_hours)

pub returns : goal.returns
unfolding day_line
returns c =
    let e = c.args.entry.now in
    behind c.put_date.ensures
    (behind c.put_byte.ensures
    (behind c.put_day_type.ensures
    (behind c.put_field.ensures (behind c.put_field-2.ensures (λ _. c.put_byte-2.ensures)))))
    (omega (arith, day-line-short e.kind (row_in e) c.requires.count_bound))
