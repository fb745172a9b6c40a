-- `Year::easter_day` meets its contract: its formula is the computus in every year of the span.
use mathlib.Core.Path.{◌∙◌, ap}
use Rattle.calendar_movable_days.specs.Easter.{easter_day}
use Rattle.calendar_movable_days.proofs.Easter.{formula-is-easter}
use Rattle.calendar_movable_days.proofs.Year.easter_day.Goals as goal

pub returns-clause-same : goal.returns-clause-same
returns-clause-same c = formula-is-easter c.self.inside.number c.self.invariant ∙ ap easter_day c.self.view_is
