-- `is_last_sunday` meets its contract: a date's month is one of the twelve.
use Rattle.calendar_dates.proofs.Dates.{parts}
use Rattle.calendar_days.proofs.is_last_sunday.Goals as goal

pub month_length-requires : goal.month_length-requires
month_length-requires c =
    let date = c.date-date.ensures in
    let p = parts _ date.real in rw date.same (p.month-from, p.month-to)
