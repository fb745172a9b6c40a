-- `text::Page::put_two_digits` meets its contract: a digit behind a digit.
use Rattle.std.proofs.Common.{arith}
use Rattle.text.proofs.Puts.{both}
use Rattle.text.proofs.Page.put_two_digits.Goals as goal

pub returns : goal.returns
returns c = both c.put_byte.ensures c.put_byte-2.ensures (omega arith)
