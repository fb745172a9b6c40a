-- The rows' counts and Wh add up to the period's, and the rows of two periods join. By induction over the days. Assumes nothing.
use mathlib.Core.Path.{◌≡◌, refl}
use mathlib.Core.List.{◌++◌, map-append}
use Prim.Native.Nat.{zero, suc}
use native.Mathlib.Omega.{arith}
use native.Mathlib.Nat.{zero-add, suc-add}
use lib.ListN.{length, length-append, length-map}
use Rattle.lists.specs.Lists.{sum}
use Rattle.lists.proofs.Sums.{sum-append}
use Rattle.calendar_dates.specs.Dates.{next_day, days_later}
use Rattle.carry.specs.Carry.{figures, last_carry}
use Rattle.carry.specs.Energy.{powers}
use Rattle.carry.proofs.Carry.{figures-append, carry-append, length-figures}
use Rattle.day_powers.specs.DayQuarters.{day_quarters}
use Rattle.series.specs.Series.{quarters_of_days}
use Rattle.series_rows.specs.Rows.{rows}
use Rattle.series_rows.specs.Joining.{RowsAddUp, RowsJoin}

pub rows-add-up : RowsAddUp
unfolding RowsAddUp rows quarters_of_days figures sum
rows-add-up b yearly zero d carry = (refl, refl)
rows-add-up b yearly (suc n) d carry =
    let day = day_quarters b d in
    let later = quarters_of_days (day_quarters b) n (next_day d) in
    let next = last_carry yearly (powers day) carry in
    let (counts, energy) = rows-add-up b yearly n (next_day d) next in
    let count : length (powers day) ≡ length day = length-map day _ in
    let split : powers (day ++ later) ≡ powers day ++ powers later = map-append _ day later in
    let joined : sum (figures yearly (powers (day ++ later)) carry) ≡ sum (figures yearly (powers day) carry ++ figures yearly (powers later) next) =
    rw (split, figures-append yearly (powers day) (powers later) carry) in (
      omega (arith, length-append day later, length-figures yearly (powers day) carry),
      omega (arith, sum-append (figures yearly (powers day) carry) (figures yearly (powers later) next)),
    )

pub rows_join : RowsJoin
unfolding RowsJoin rows quarters_of_days days_later last_carry
rows_join b yearly zero m d carry = rw zero-add
rows_join b yearly (suc n) m d carry =
    let day = day_quarters b d in
    let later = quarters_of_days (day_quarters b) n (next_day d) in
    let next = last_carry yearly (powers day) carry in
    let split : powers (day ++ later) ≡ powers day ++ powers later = map-append _ day later in
    let left : last_carry yearly (powers (day ++ later)) carry ≡ last_carry yearly (powers later) next =
    rw split (carry-append yearly (powers day) (powers later) carry) in
    rw (suc-add, left, rows_join b yearly n m (next_day d) next)
