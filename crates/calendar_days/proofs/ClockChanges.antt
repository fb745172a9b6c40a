-- The order of a day's positions under the two clock changes, computed. Assumes nothing.
use mathlib.Core.Path.{refl}
use Rattle.lists.specs.Lists.{each_from}
use Rattle.calendar_days.specs.Days.{positions}
use Rattle.calendar_days.specs.ClockChanges.{ClockChanges}

pub clock-changes : ClockChanges
unfolding each_from positions
clock-changes = record { march_order = refl; october_order = refl }
