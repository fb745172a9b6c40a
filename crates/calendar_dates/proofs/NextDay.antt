-- The next day has the next day number, and is a date unless the span is over: by the three cases of `next_day`.
-- Assumes nothing.
use mathlib.Core.Path.{◌≡◌, refl, ◌∙◌, ap}
use mathlib.Core.Bool.{Bool, true, false}
use Prim.Native.Nat.{ℕ, ◌+◌, ◌-◌, ◌≤◌, ◌<◌}
use native.Mathlib.Omega.{arith}
use lib.Dec.{ltb}
use borrow.Author.Tests.{lt-ltb, le-ltb, ltb-true, ltb-false}
use Rattle.calendar_dates.specs.declared.Date.{Date}
use Rattle.calendar_dates.specs.Dates.{number_of, leap_days, month_length, is_date, days_of_months, day_of_year, days_of_years, day_number, next_day}
use Rattle.calendar_dates.proofs.Dates.{month-large, Parts, parts, is-date, months-next, january, months-all, years-next}

-- the three dates that a next day can be
abbrev pub same_month : Date → Date
same_month d = record { year = d.year; month = d.month; day = d.day + 1 }

abbrev pub next_month : Date → Date
next_month d = record { year = d.year; month = d.month + 1; day = 1 }

abbrev pub next_year : Date → Date
next_year d = record { year = d.year + 1; month = 1; day = 1 }

-- which one it is, by a number l that is the month's length
pub is-same-month : (d : Date) (l : ℕ) → l ≡ month_length d.year d.month → d.day < l → next_day d ≡ same_month d
unfolding next_day
is-same-month d l e h = rw (← e, lt-ltb d.day l h)

pub is-next-month : (d : Date) (l : ℕ) → l ≡ month_length d.year d.month → l ≤ d.day → d.month < 12 → next_day d ≡ next_month d
unfolding next_day
is-next-month d l e h m = rw (← e, le-ltb d.day l h, lt-ltb d.month 12 m)

is-next-year : (d : Date) (l : ℕ) → l ≡ month_length d.year d.month → l ≤ d.day → 12 ≤ d.month → next_day d ≡ next_year d
unfolding next_day
is-next-year d l e h m = rw (← e, le-ltb d.day l h, le-ltb d.month 12 m)

same-month : (d : Date) → is_date d ≡ true → d.day < month_length d.year d.month → day_number (same_month d) ≡ day_number d + 1
unfolding day_number day_of_year
same-month d h l = omega (arith, parts d h)

next-month : (d : Date) → is_date d ≡ true → month_length d.year d.month ≤ d.day → day_number (next_month d) ≡ day_number d + 1
unfolding day_number day_of_year
next-month d h l =
    let p = parts d h in
    let one : d.month + 1 - 1 ≡ d.month - 1 + 1 = omega arith in
    let same : d.month - 1 + 1 ≡ d.month = omega arith in
    let length : month_length d.year (d.month - 1 + 1) ≡ month_length d.year d.month = ap (month_length d.year) same in
    let next : days_of_months d.year (d.month + 1 - 1) ≡ days_of_months d.year (d.month - 1) + month_length d.year (d.month - 1 + 1) =
    ap (days_of_months d.year) one ∙ months-next d.year (d.month - 1) in
    omega arith

next-year : (d : Date) → is_date d ≡ true → month_length d.year d.month ≤ d.day → 12 ≤ d.month → day_number (next_year d) ≡ day_number d + 1
unfolding day_number day_of_year
next-year d h l m =
    let p = parts d h in
    let n = d.year - 1996 in
    let twelve : d.month ≡ 12 = omega arith in
    let eleven : d.month - 1 ≡ 11 = omega arith in
    let year : 1996 + n ≡ d.year = omega arith in
    let after : d.year + 1 - 1996 ≡ n + 1 = omega arith in
    let days : days_of_months d.year (d.month - 1) ≡ days_of_months d.year 11 = ap (days_of_months d.year) eleven in
    let last : month_length d.year d.month ≡ month_length d.year 12 = ap (month_length d.year) twelve in
    let years : days_of_years (d.year + 1 - 1996) ≡ days_of_years n + (365 + leap_days (1996 + n)) = ap days_of_years after ∙ years-next n in
    let leap : leap_days (1996 + n) ≡ leap_days d.year = ap leap_days year in
    omega (arith, months-next d.year 11, months-all d.year, january (d.year + 1))

december : (year : ℕ) → month_length year 12 ≡ 31
unfolding month_length
december year = refl

-- the next day has the next day number and a later date, which is one of the span unless that is over
pub record NextDayCounts (d : Date) : Type 0 where
  pub counts : day_number (next_day d) ≡ day_number d + 1
  pub later : number_of d < number_of (next_day d)
  pub is_date_too : number_of d < 20991231 → is_date (next_day d) ≡ true

-- whichever of the three it is
counted : (d next : Date) → next_day d ≡ next → day_number next ≡ day_number d + 1 → number_of d < number_of next →
    (number_of d < 20991231 → is_date next ≡ true) → NextDayCounts d
counted d next e n l t =
    record { counts = ap day_number e ∙ n; later = omega (arith, ap number_of e, l); is_date_too = λ before. ap is_date e ∙ t before }

pub next-day-counts : (d : Date) → is_date d ≡ true → NextDayCounts d
next-day-counts d h = by-day (ltb d.day length) refl
  where
    length : ℕ
    length = month_length d.year d.month

    p : Parts d
    p = parts d h

    by-month : length ≤ d.day → (b : Bool) → ltb d.month 12 ≡ b → NextDayCounts d
    by-month l true e =
        let m : d.month < 12 = ltb-true d.month 12 e in
        counted d (next_month d) (is-next-month d length refl l m) (next-month d h l) (omega (arith, p.day-small))
        (λ before. is-date (next_month d) p.year-from p.year-to (omega arith) (omega arith) (omega arith)
        (omega (arith, month-large d.year (d.month + 1) (omega arith) (omega arith))))
    by-month l false e =
        let m : 12 ≤ d.month = ltb-false d.month 12 e in
        let twelve : d.month ≡ 12 = omega (arith, p.month-to) in
        let last : length ≡ 31 = ap (month_length d.year) twelve ∙ december d.year in
        counted d (next_year d) (is-next-year d length refl l m) (next-year d h l m) (omega (arith, p.day-small, p.month-to))
        (λ before. is-date (next_year d) (omega (arith, p.year-from)) (omega (arith, p.year-to)) (omega arith) (omega arith) (omega arith)
        (omega (arith, month-large (d.year + 1) 1 (omega arith) (omega arith))))

    by-day : (b : Bool) → ltb d.day length ≡ b → NextDayCounts d
    by-day true e =
        let l : d.day < length = ltb-true d.day length e in
        counted d (same_month d) (is-same-month d length refl l) (same-month d h l) (omega arith)
        (λ before. is-date (same_month d) p.year-from p.year-to p.month-from p.month-to (omega arith) (omega arith))
    by-day false e = by-month (ltb-false d.day length e) (ltb d.month 12) refl
