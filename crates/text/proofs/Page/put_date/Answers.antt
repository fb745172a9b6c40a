-- `text::Page::put_date` meets its contract: its parts, put one behind the other, are the date.
use Rattle.std.proofs.Common.{arith}
use Rattle.calendar_dates.proofs.Dates.{parts}
use Rattle.text.proofs.Puts.{both}
use Rattle.text.proofs.Page.put_date.Goals as goal

pub put_two_digits-requires-clause-n_bound : goal.put_two_digits-requires-clause-n_bound
put_two_digits-requires-clause-n_bound c = rw c.date-date.ensures.same (omega (arith, parts _ c.date-date.ensures.real))

pub put_two_digits-requires-3-clause-n_bound : goal.put_two_digits-requires-3-clause-n_bound
put_two_digits-requires-3-clause-n_bound c = rw c.date-date.ensures.same (omega (arith, parts _ c.date-date.ensures.real))

pub put_two_digits-requires-4-clause-n_bound : goal.put_two_digits-requires-4-clause-n_bound
put_two_digits-requires-4-clause-n_bound c = rw c.date-date.ensures.same (omega (arith, parts _ c.date-date.ensures.real))

pub returns : goal.returns
returns c =
    rw (← c.date-date.ensures.same)
    (both
    (both
    (both
    (both (both c.put_two_digits.ensures c.put_two_digits-2.ensures (omega arith)) c.put_byte.ensures (omega arith))
    c.put_two_digits-3.ensures
    (omega arith))
    c.put_byte-2.ensures
    (omega arith))
    c.put_two_digits-4.ensures
    (omega arith))
