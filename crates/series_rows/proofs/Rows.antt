-- How many rows a period has. Assumes nothing.
use mathlib.Core.Path.{◌≡◌, refl, ap}
use Prim.Native.Nat.{ℕ, zero, suc}
use lib.ListN.{length}
use Rattle.calendar_dates.specs.declared.Date.{Date}
use Rattle.day_powers.specs.DayQuarters.{Basis}
use Rattle.series_rows.specs.Rows.{rows}

pub length-rows : (b : Basis) (yearly n : ℕ) (d : Date) (carry : ℕ) → length (rows b yearly n d carry) ≡ n
unfolding rows
length-rows b yearly zero d carry = refl
length-rows b yearly (suc n) d carry = ap suc (length-rows b yearly n _ _)
