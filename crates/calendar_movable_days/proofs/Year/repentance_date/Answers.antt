-- `Year::repentance_date` meets its contract: its formula gives that Wednesday in every year of the span.
use mathlib.Core.Path.{◌∙◌, ap}
use Prim.Native.Nat.{ℕ}
use Rattle.calendar_dates.specs.Dates.{number_of}
use Rattle.calendar_movable_days.specs.Repentance.{repentance}
use Rattle.calendar_movable_days.proofs.Repentance.{formula-is-repentance}
use Rattle.calendar_movable_days.proofs.Year.repentance_date.Goals as goal

pub returns : goal.returns
returns c = formula-is-repentance c.self.inside.number c.self.invariant ∙ ap (λ (year : ℕ). number_of (repentance year)) c.self.view_is
