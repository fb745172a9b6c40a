-- The dates of the days of March, counted on through April, May and June. Assumes nothing.
use mathlib.Core.Path.{◌≡◌, refl, ◌∙◌, ap}
use Prim.Native.Nat.{ℕ, zero, suc, ◌+◌, ◌-◌, ◌*◌, ◌≤◌, ◌<◌}
use native.Mathlib.Omega.{arith}
use Rattle.calendar_dates.specs.declared.Date.{Date}
use Rattle.calendar_dates.specs.Dates.{number_of, month_length, next_day, days_later}
use Rattle.calendar_dates.proofs.NextDay.{same_month, is-same-month}
use Rattle.calendar_dates.proofs.Later.{later-add}
use Rattle.calendar_movable_days.specs.Counted.{march_day}

-- so many days later in the same month
within : (k : ℕ) (d : Date) → d.day + k ≤ month_length d.year d.month →
    days_later k d ≡ record { year = d.year; month = d.month; day = d.day + k }
unfolding days_later
within zero d h = let e : d.day ≡ d.day + zero = omega arith in rw (← e)
within (suc k) d h =
    let e : d.day + 1 + k ≡ d.day + suc k = omega arith in
    ap (days_later k) (is-same-month d (month_length d.year d.month) refl (omega arith)) ∙ within k (same_month d) (omega arith) ∙ rw e

-- the days of a month that begins `start` days behind 1 March
module _ (year start month : ℕ) (begins : days_later start (record { year = year; month = 3; day = 1 }) ≡ record { year = year; month = month; day = 1 }) where
  in-month : (day : ℕ) → start < day → day ≤ start + month_length year month →
      number_of (march_day year day) ≡ year * 10_000 + month * 100 + (day - start)
  unfolding march_day
  in-month day a b =
      let k : ℕ = day - 1 - start in
      let split : day - 1 ≡ start + k = omega arith in
      let left : 1 + k ≡ day - start = omega arith in
      ap number_of
      (ap (λ n. days_later n (record { year = year; month = 3; day = 1 })) split
      ∙ later-add start k (record { year = year; month = 3; day = 1 })
      ∙ ap (days_later k) begins
      ∙ within k (record { year = year; month = month; day = 1 }) (omega arith))
      ∙ rw left

pub march : (year day : ℕ) → 1 ≤ day → day ≤ 31 → number_of (march_day year day) ≡ year * 10_000 + 300 + day
unfolding month_length days_later
march year day a b = omega (arith, in-month year 0 3 refl day (omega arith) (omega arith))

pub april : (year day : ℕ) → 31 < day → day ≤ 61 → number_of (march_day year day) ≡ year * 10_000 + 400 + (day - 31)
unfolding month_length next_day days_later
april year day a b = in-month year 31 4 refl day a (omega arith)

pub may : (year day : ℕ) → 61 < day → day ≤ 92 → number_of (march_day year day) ≡ year * 10_000 + 500 + (day - 61)
unfolding month_length next_day days_later
may year day a b = in-month year 61 5 refl day a (omega arith)

pub june : (year day : ℕ) → 92 < day → day ≤ 122 → number_of (march_day year day) ≡ year * 10_000 + 600 + (day - 92)
unfolding month_length next_day days_later
june year day a b = in-month year 92 6 refl day a (omega arith)
