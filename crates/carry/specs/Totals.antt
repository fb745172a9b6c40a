-- What two runs, one behind the other, come to. No definition of document 01.
use Rattle.std.specs.Prelude.{◌+◌}
use Rattle.carry.specs.declared.Totals.{Totals}

-- the counts and totals added, with the carry that the second leaves
abbrev pub together : Totals → Totals → Totals
together first second =
    record { count = first.count + second.count; total = first.total + second.total; carry = second.carry }
