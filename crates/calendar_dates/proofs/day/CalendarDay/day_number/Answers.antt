-- `CalendarDay::day_number` meets its contract: its year and its t are in range.
use native.Mathlib.Omega.{arith}
use Rattle.calendar_dates.specs.Dates.{day_number}
use Rattle.calendar_dates.proofs.Dates.{day_in_range}
use Rattle.calendar_dates.proofs.day.CalendarDay.day_number.Goals as goal

pub days_since_1996-requires : goal.days_since_1996-requires
days_since_1996-requires c = day_in_range c.self.inside.date c.self.invariant.0 c.self.invariant.2

pub returns : goal.returns
unfolding day_number
returns c = grind (arith, c.days_since_1996.ensures, c.self.view_is, c.self.invariant.2)
