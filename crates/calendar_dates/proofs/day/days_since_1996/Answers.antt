-- `days_since_1996` meets its contract: the years before have the closed form of `years-closed`.
use Prim.Native.Nat.{◌-◌}
use native.Mathlib.Omega.{arith}
use Rattle.calendar_dates.proofs.Dates.{years-closed}
use Rattle.calendar_dates.proofs.day.days_since_1996.Goals as goal

pub returns : goal.returns
returns c = omega (arith, years-closed (c.args.year - 1996))
