-- What each turn of the loop keeps: the powers so far are the table's.
use Rattle.std.proofs.Common.{◌≡◌, length, take}
use Rattle.day_powers.specs.DayTable.{day_table_at}
use Rattle.day_powers.specs.Inside.{powers_by}
use Rattle.day_powers.proofs.powers_of.Given as goal

abbrev pub invariant-loop-i : goal.invariant-loop-i
invariant-loop-i l =
    (length l.power-items ≡ 96) × (take l.i l.power-items ≡ take l.i (powers_by l.f (day_table_at l.table l.values)))
