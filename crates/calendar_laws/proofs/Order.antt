-- Dates have the order of their day numbers (proofs/Order.antt of calendar_dates). Assumes nothing.
use mathlib.Core.Path.{◌≡◌}
use mathlib.Core.Bool.{true}
use Rattle.calendar_dates.specs.declared.Date.{Date}
use Rattle.calendar_dates.specs.Dates.{is_date}
use Rattle.calendar_dates.proofs.Order.{by-day, by-number}
use Rattle.calendar_laws.specs.Periods.{SameOrder}

pub same-order : (a b : Date) → is_date a ≡ true → is_date b ≡ true → SameOrder a b
same-order a b p q = record { by_day = by-day a b p q; by_number = by-number a b p q }
