-- `Date::next_day` meets its contract: a date's month is one of the twelve.
use Rattle.calendar_dates.proofs.Dates.{parts}
use Rattle.calendar_dates.proofs.Date.next_day.Goals as goal

pub month_length-requires : goal.month_length-requires
month_length-requires c = let p = parts c.args.self c.requires in (p.month-from, p.month-to)
