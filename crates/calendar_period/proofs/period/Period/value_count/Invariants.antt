-- What each turn of the loop keeps: the values counted and those of the days left make the whole.
use mathlib.Core.Path.{◌≡◌}
use Prim.Native.Nat.{◌+◌}
use Rattle.std.specs.List.{sum_by}
use Rattle.calendar_days.specs.Days.{value_count}
use Rattle.calendar_period.specs.Period.{value_count_of_days}
use Rattle.calendar_period.proofs.period.Period.value_count.Given as goal

abbrev pub invariant-loop-day : goal.invariant-loop-day
invariant-loop-day l = l.values + sum_by value_count l.day-iterator ≡ value_count_of_days l.fn.self.days l.fn.self.first
