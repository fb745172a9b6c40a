-- `Period::value_count` meets its contract: a day has at most 100 values.
use mathlib.Core.Path.{◌≡◌, ◌∙◌, ap}
use mathlib.Core.List.{List, ◌∷◌}
use Prim.Native.Nat.{ℕ, ◌+◌}
use native.Mathlib.Omega.{arith}
use Rattle.std.specs.List.{sum_by}
use Rattle.std.proofs.lemmas.List.Sums.{sum_by-cons}
use Rattle.calendar_dates.specs.declared.Date.{Date}
use Rattle.calendar_days.specs.Days.{value_count_under, value_count}
use Rattle.calendar_period.proofs.Periods.{values-small, values-from}
use Rattle.calendar_period.proofs.period.Period.value_count.Goals as goal

-- one day counted
turn : {all rest : List Date} {day : Date} {count : ℕ} → all ≡ day ∷ rest → count ≡ value_count day → sum_by value_count all ≡ count + sum_by value_count rest
turn {all} {rest} {day} e n = ap (sum_by value_count) e ∙ rw n (sum_by-cons value_count day rest)

pub loop-day-init : goal.loop-day-init
loop-day-init c = rw (c.into_iter-day-iterator.ensures.into_iter_gives, c.dates-day-items.ensures.same) (omega (arith, values-from c.args.self.days c.args.self.first))

pub overflow_add-values : goal.overflow_add-values
overflow_add-values c =
    let period = c.args.self in
    omega (
      arith,
      turn c.in-Some.ensures.steps (c.value_count.ensures ∙ ap value_count_under c.clock_of.ensures),
      c.loop-day.invariant,
      values-small period.days period.first,
      c.dates-day-items.ensures.few,
    )
