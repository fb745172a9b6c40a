-- `CalendarDay::day_after` meets its contract: the weekday goes on with the day number, and t with it but for 1 January.
use mathlib.Core.Path.{◌≡◌, refl, ap}
use mathlib.Core.Bool.{Bool, true, false, cond}
use Prim.Native.Nat.{ℕ, ◌+◌, ◌-◌, ◌%◌, ◌≤◌}
use native.Mathlib.Omega.{arith}
use lib.Dec.{ltb}
use Rattle.calendar_dates.specs.declared.Date.{Date}
use Rattle.calendar_dates.specs.Dates.{month_length, is_date, day_of_year, days_of_years, day_number, weekday_of, next_day}
use Rattle.calendar_dates.proofs.Dates.{parts, january, day_in_range}
use Rattle.calendar_dates.proofs.NextDay.{same_month, next_month, next_year, next-day-counts}
use Rattle.calendar_dates.proofs.day.CalendarDay.day_after.Goals as goal

new-year : (d : Date) → d.month ≡ 1 → d.day ≡ 1 → 1 ≡ day_of_year d
unfolding day_of_year
new-year d m e = rw (m, e) (omega (arith, january d.year))

same-year : (d : Date) → ((next_day d).month ≡ 1 → (next_day d).day ≡ 1 → ⊥) → ((next_day d).year ≡ d.year) × (1 ≤ (next_day d).day)
unfolding next_day
same-year d = go (ltb d.day (month_length d.year d.month)) (ltb d.month 12)
  where
    next : Bool → Bool → Date
    next s t = cond s (same_month d) (cond t (next_month d) (next_year d))

    go : (s t : Bool) → ((next s t).month ≡ 1 → (next s t).day ≡ 1 → ⊥) → ((next s t).year ≡ d.year) × (1 ≤ (next s t).day)
    go true t never = (refl, omega arith)
    go false true never = (refl, omega arith)
    go false false never = absurd (never refl refl)

-- t on another day than 1 January
t-next : (d : Date) {t : ℕ} → is_date d ≡ true → t ≡ day_of_year d → ((next_day d).month ≡ 1 → (next_day d).day ≡ 1 → ⊥) → t + 1 ≡ day_of_year (next_day d)
unfolding day_number day_of_year
t-next d real e never =
    let same = same-year d never in
    let years : days_of_years ((next_day d).year - 1996) ≡ days_of_years (d.year - 1996) = ap (λ (y : ℕ). days_of_years (y - 1996)) same.0 in
    omega (arith, (next-day-counts d real).counts, parts d real)

weekday-next : (d : Date) {w : ℕ} → is_date d ≡ true → w ≡ weekday_of d → w % 7 + 1 ≡ weekday_of (next_day d)
unfolding weekday_of
weekday-next d real e = omega (arith, (next-day-counts d real).counts)

pub overflow_add-t : goal.overflow_add-t
overflow_add-t c = omega (arith, day_in_range _ c.self.invariant.0 c.self.invariant.2)

pub returns : goal.returns
returns c =
    let d = c.self.inside.date in
    let real = c.self.invariant.0 in
    let n = c.next_day-date.ensures in
    let t : c.match-date.t ≡ day_of_year (next_day d) = grind (arith, new-year, t-next d real c.self.invariant.2) in
    rw (← c.self.view_is, n) (λ i. (next_day d, weekday-next d real c.self.invariant.1 i, t i))
