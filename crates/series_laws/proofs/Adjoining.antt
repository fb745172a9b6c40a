-- A period, and one that begins on the day after it and lasts to `end`: together they are the period from the first date to `end`,
-- whichever quarter hours a day has. Assumes nothing.
use mathlib.Core.Path.{◌≡◌, sym, ◌∙◌, ap}
use mathlib.Core.Bool.{true}
use mathlib.Core.List.{List, ◌++◌}
use Prim.Native.Nat.{ℕ, suc, ◌+◌, ◌-◌, ◌≤◌}
use native.Mathlib.Omega.{arith}
use Rattle.calendar_dates.specs.declared.Date.{Date}
use Rattle.calendar_dates.specs.Dates.{is_date, day_number, next_day, days_later}
use Rattle.calendar_dates.proofs.Later.{later-next}
use Rattle.calendar_dates.proofs.NextDay.{next-day-counts}
use Rattle.calendar_period.specs.Period.{days_of}
use Rattle.calendar_laws.proofs.Periods.{period-days}
use Rattle.carry.specs.Energy.{Quarter}
use Rattle.series.specs.Series.{quarters_of_days}
use Rattle.series.proofs.Series.{quarters-add}

module _ (day : Date → List Quarter) (first last end : Date) (p : is_date first ≡ true) (q : is_date last ≡ true) (h : day_number first ≤ day_number last) (k : day_number (next_day last) ≤ day_number end) where
  -- the day after the first period
  after_last : days_later (days_of first last) first ≡ next_day last
  unfolding days_later days_of
  after_last =
      let n = day_number last + 1 - day_number first in
      let one : suc (n - 1) ≡ n = omega arith in
      ap (λ (k : ℕ). days_later k first) (sym one) ∙ later-next (n - 1) first ∙ ap next_day (period-days first last p q h).ends

  days-add : days_of first end ≡ days_of first last + days_of (next_day last) end
  unfolding days_of
  days-add = omega (arith, (next-day-counts last q).counts)

  pub two-periods :
      quarters_of_days day (days_of first last) first ++ quarters_of_days day (days_of (next_day last) end) (next_day last)
      ≡ quarters_of_days day (days_of first end) first
  two-periods = rw (days-add, quarters-add day (days_of first last) (days_of (next_day last) end) first, after_last)

  pub in_order : day_number first ≤ day_number end
  in_order = omega (arith, (next-day-counts last q).counts)
