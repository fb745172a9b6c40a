-- `to` meets its contract: two dates of one year have the order of month and day.
use mathlib.Core.Path.{refl, ◌∙◌}
use Rattle.calendar_dates.proofs.Dates.{parts}
use Rattle.calendar_days.specs.Days.{to}
use Rattle.calendar_days.proofs.MonthDays.{compared}
use Rattle.calendar_days.proofs.to.Goals as goal

pub returns : goal.returns
unfolding to
returns c =
    let d = c.date-date.ensures in
    rw d.same at c.le.ensures ∙ compared _ _ (refl {a = c.args.date.year}) (parts c.args.date d.real).day-small c.requires
