-- A period's days, counted from its first date: they are dates, with one day number after the other, and end on the last date.
-- Assumes nothing.
use mathlib.Core.Path.{◌≡◌}
use mathlib.Core.Bool.{true}
use Prim.Native.Nat.{suc, ◌+◌, ◌-◌, ◌≤◌}
use native.Mathlib.Omega.{arith}
use Rattle.calendar_dates.specs.declared.Date.{Date}
use Rattle.calendar_dates.specs.Dates.{is_date, day_number}
use Rattle.calendar_dates.proofs.Later.{reached}
use Rattle.calendar_period.specs.Period.{days_of}
use Rattle.calendar_laws.specs.Periods.{DaysCounted, PeriodsCounted}
use Rattle.calendar_laws.proofs.Order.{same-order}

pub period-days : (first last : Date) → is_date first ≡ true → is_date last ≡ true → day_number first ≤ day_number last → DaysCounted first last
unfolding days_of
period-days first last p q h =
    let n = day_number last - day_number first in
    let all : suc n ≡ day_number last + 1 - day_number first = omega arith in
    let one : n ≡ day_number last + 1 - day_number first - 1 = omega arith in
    let r = reached n first last p q (omega arith) in
    record { dates = rw (← all) r.0; ends = rw (← one) r.1 }

pub periods-counted : PeriodsCounted
unfolding PeriodsCounted
periods-counted first last p q = (same-order first last p q, period-days first last p q)
