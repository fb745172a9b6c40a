-- What each turn of the loop keeps: the months before have been added up.
use mathlib.Core.Path.{◌≡◌}
use Prim.Native.Nat.{◌-◌}
use Rattle.calendar_dates.specs.Dates.{days_of_months}
use Rattle.calendar_dates.proofs.day.day_of_year.Given as goal

abbrev pub invariant-loop-month : goal.invariant-loop-month
invariant-loop-month l = l.days ≡ days_of_months l.date.year (l.month - 1)
