-- `day_of_year` meets its contract: after each turn of the loop the months so far are added up.
use mathlib.Core.Path.{refl}
use Prim.Native.Nat.{◌-◌}
use native.Mathlib.Omega.{arith}
use Rattle.calendar_dates.specs.Dates.{days_of_months, day_of_year}
use Rattle.calendar_dates.proofs.Dates.{parts, month-small, months-next, months_small}
use Rattle.calendar_dates.proofs.day.day_of_year.Goals as goal

pub month_length-days-requires : goal.month_length-days-requires
month_length-days-requires c = let p = parts c.args.date c.requires in (c.loop-month.auto.month, omega arith)

pub loop-month-init : goal.loop-month-init
unfolding days_of_months
loop-month-init c = refl

pub overflow_add-days : goal.overflow_add-days
overflow_add-days c =
    let date = c.args.date in
    let month = c.loop-month.month in
    omega (arith, parts date c.requires, months_small date.year (month - 1), month-small date.year month, c.month_length-days.ensures)

pub loop-month-preserved : goal.loop-month-preserved
loop-month-preserved c = grind (arith, months-next c.args.date.year (c.loop-month.month - 1), c.month_length-days.ensures)

pub overflow_add-result : goal.overflow_add-result
overflow_add-result c =
    let date = c.args.date in omega (arith, parts date c.requires, months_small date.year (c.loop-month.month - 1))

pub returns : goal.returns
unfolding day_of_year
returns c = grind (arith, parts c.args.date c.requires)
