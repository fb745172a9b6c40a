-- The rows of a period add up, and those of two periods join.
use Rattle.std.specs.Prelude.{◌≡◌, ◌++◌, map, ℕ, ◌+◌, length}
use Rattle.lists.specs.Lists.{sum}
use Rattle.calendar_dates.specs.declared.Date.{Date}
use Rattle.calendar_dates.specs.Dates.{days_later}
use Rattle.carry.specs.Carry.{figures, last_carry}
use Rattle.carry.specs.Energy.{powers}
use Rattle.day_powers.specs.DayQuarters.{Basis, day_quarters}
use Rattle.series.specs.Series.{quarters_of_days}
use Rattle.series_rows.specs.Rows.{rows}

-- Two theorems, for any group, days and carry. Proved in proofs/Joining.antt.

-- the rows' counts and Wh add up to the period's
unfoldable pub RowsAddUp : Type 0
RowsAddUp =
    (b : Basis) (yearly n : ℕ) (d : Date) (carry : ℕ) →
    (sum (map (λ row. row.count) (rows b yearly n d carry)) ≡ length (quarters_of_days (day_quarters b) n d))
    × (sum (map (λ row. row.watt_hours) (rows b yearly n d carry)) ≡ sum (figures yearly (powers (quarters_of_days (day_quarters b) n d)) carry))

-- the rows of n + m days are those of the first n, and those of the m after them, begun with the carry that the first n leave
unfoldable pub RowsJoin : Type 0
RowsJoin =
    (b : Basis) (yearly n m : ℕ) (d : Date) (carry : ℕ) →
    rows b yearly (n + m) d carry
    ≡ rows b yearly n d carry
    ++ rows b yearly m (days_later n d) (last_carry yearly (powers (quarters_of_days (day_quarters b) n d)) carry)
