-- `CalendarDay::new` meets its contract: weekday and t are the date's own.
use native.Mathlib.Omega.{arith}
use Rattle.calendar_dates.specs.Dates.{day_number, weekday_of}
use Rattle.calendar_dates.proofs.Dates.{day_in_range}
use Rattle.calendar_dates.proofs.day.CalendarDay.new.Goals as goal

pub days_since_1996-number-requires : goal.days_since_1996-number-requires
days_since_1996-number-requires c = day_in_range c.args.date c.requires c.day_of_year-t.ensures

pub invariant_of-result : goal.invariant_of-result
unfolding day_number weekday_of
invariant_of-result c = (c.requires, grind (arith, c.days_since_1996-number.ensures, c.day_of_year-t.ensures), c.day_of_year-t.ensures)
