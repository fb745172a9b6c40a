-- `text_fields::put_day_type` meets its contract: the letter is the season's, the digit the day type's.
use Rattle.std.proofs.Common.{sym, arith}
use Rattle.text.proofs.Puts.{both}
use Rattle.text_fields.proofs.put_day_type.Goals as goal

pub returns : goal.returns
returns c =
    rw (sym c.letter.ensures, sym c.digit.ensures)
    (both c.put_byte.ensures c.put_byte-2.ensures (omega arith))
