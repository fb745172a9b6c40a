-- `text::Page::put_decimal` meets its contract: the last digits of a number, as many as it has, are all.
use Rattle.std.proofs.Common.{arith}
use Rattle.text.proofs.Text.{decimal_most, decimal-all}
use Rattle.text.proofs.Page.put_decimal.Goals as goal

pub put_last_digits-requires : goal.put_last_digits-requires
put_last_digits-requires c = omega (arith, c.digit_count.ensures, decimal_most c.args.n)

pub returns : goal.returns
returns c = rw (decimal-all c.args.n, ← c.digit_count.ensures) c.put_last_digits.ensures
