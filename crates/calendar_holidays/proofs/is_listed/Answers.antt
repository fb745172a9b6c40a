-- `is_listed` meets its contract: `contains` finds just the listed dates.
use mathlib.Core.Path.{◌∙◌}
use Rattle.calendar_holidays.proofs.Holidays.{listed_any}
use Rattle.calendar_holidays.proofs.is_listed.Goals as goal

pub returns : goal.returns
returns c = c.contains.ensures.value ∙ listed_any _ _
