-- The days from a date on, counted one by one. Assumes nothing.
use mathlib.Core.Path.{◌≡◌, refl}
use mathlib.Core.Bool.{true}
use Prim.Native.Nat.{ℕ, zero, suc, ◌+◌, ◌-◌, ◌<◌}
use native.Mathlib.Omega.{arith}
use native.Mathlib.Nat.{zero-add, suc-add}
use Rattle.calendar_dates.specs.declared.Date.{Date}
use Rattle.calendar_dates.specs.Dates.{is_date, day_number, next_day, days_later, AllDates}
use Rattle.calendar_dates.proofs.Dates.{parts}
use Rattle.calendar_dates.proofs.NextDay.{next-day-counts}
use Rattle.calendar_dates.proofs.Order.{by-number, same-day}

-- Days counted from a date on.
pub all_first : (n : ℕ) (d : Date) → AllDates n d → 0 < n → is_date d ≡ true
unfolding days_later
all_first n d all h = all 0 h

pub all-next : (n : ℕ) (d : Date) → AllDates n d → AllDates (n - 1) (next_day d)
unfolding days_later
all-next n d all k h = all (suc k) (omega arith)

pub later-add : (j k : ℕ) (d : Date) → days_later (j + k) d ≡ days_later k (days_later j d)
unfolding days_later
later-add zero k d = rw zero-add
later-add (suc j) k d = rw suc-add (later-add j k (next_day d))

pub later-next : (k : ℕ) (d : Date) → days_later k (next_day d) ≡ next_day (days_later k d)
unfolding days_later
later-next zero d = refl
later-next (suc k) d = later-next k (next_day d)

pub later-number : (k : ℕ) (d : Date) → AllDates k d → day_number (days_later k d) ≡ day_number d + k
unfolding days_later
later-number zero d all = omega arith
later-number (suc k) d all =
    omega (arith, later-number k (next_day d) (λ j h. all (suc j) (omega arith)), (next-day-counts d (all 0 (omega arith))).counts)

-- one date more, before the others
all_more : (n : ℕ) (d : Date) → is_date d ≡ true → AllDates n (next_day d) → AllDates (suc n) d
unfolding days_later
all_more n d p all zero h = p
all_more n d p all (suc k) h = all k (omega arith)

-- where the last date stands n days after the first, it is reached, over dates only
pub reached : (n : ℕ) (first last : Date) → is_date first ≡ true → is_date last ≡ true → day_number last ≡ day_number first + n → AllDates (suc n) first × (days_later n first ≡ last)
unfolding days_later
reached zero first last p q h =
    (all_more zero first p (λ k l. absurd (omega arith)), same-day first last p q (omega arith))
reached (suc n) first last p q h =
    let next = next-day-counts first p in
    let before = by-number first last p q (omega arith) in
    let rest = reached n (next_day first) last (next.is_date_too (omega (arith, parts last q))) q (omega arith) in
    (all_more (suc n) first p rest.0, rest.1)
