-- `program_refusal::put_refused_line` meets its contract: the parts, put one behind the other, are the line.
use Rattle.std.proofs.Common.{arith, length-append}
use Rattle.text.proofs.Text.{decimal_most}
use Rattle.text.proofs.Puts.{behind}
use Rattle.program_refusal.specs.Refused.{refused_line}
use Rattle.program_refusal.proofs.put_refused_line.Goals as goal

pub put_field-requires-2 : goal.put_field-requires-2
put_field-requires-2 c = omega (arith, decimal_most c.number.result)

pub put_byte-requires : goal.put_byte-requires
put_byte-requires c = omega (arith, decimal_most c.number.result, decimal_most c.place.result)

pub returns : goal.returns
unfolding refused_line
returns c =
    rw (← c.number.ensures, ← c.place.ensures)
    (behind c.put_word.ensures (behind c.put_field.ensures (behind c.put_field-2.ensures (λ _. c.put_byte.ensures)))
    (simp length-append (omega (arith, decimal_most c.number.result, decimal_most c.place.result))))
