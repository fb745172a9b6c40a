-- `CalendarDay::day_of_year` answers the date's own t, which lies in the year.
use Rattle.calendar_dates.proofs.Dates.{day_in_range}
use Rattle.calendar_dates.proofs.day.CalendarDay.day_of_year.Goals as goal

pub returns-clause-in_year : goal.returns-clause-in_year
returns-clause-in_year c =
    let own = c.self.invariant in
    let range = day_in_range c.self.inside.date own.0 own.2 in
    (range.2, range.3)
