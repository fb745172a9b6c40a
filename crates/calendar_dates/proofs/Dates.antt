-- Laws of the calendar's definitions, which the functions' proofs and other crates cite.
-- Assumes nothing.
use mathlib.Core.Path.{◌≡◌, refl, sym, ◌∙◌}
use mathlib.Core.Bool.{Bool, true, false, cond, ◌&&◌}
use mathlib.Core.List.{List, [], ◌∷◌}
use Prim.Native.Nat.{ℕ, zero, suc, ◌+◌, ◌-◌, ◌*◌, ◌/◌, ◌%◌, ◌≤◌, ◌<◌}
use native.Mathlib.Omega.{arith}
use native.Mathlib.Numerals.{add-one}
use native.Mathlib.Nat.{le_refl, zero-add, suc-add}
use lib.Dec.{leb, eqb}
use lib.ListN.{length, get_or}
use borrow.Author.Tests.{leb-true, eqb-true, le-leb, eqb-false}
use Rattle.refusal.proofs.Questions.{both}
use Rattle.calendar_dates.specs.declared.Date.{Date}
use Rattle.calendar_dates.specs.Dates.{month_lengths, leap_days, month_length, is_date, days_of_months, day_of_year, days_of_years, day_number}

-- an entry of a table whose entries are all at most a limit, or the 0 past its end
all_small : ℕ → List ℕ → Bool
all_small limit [] = true
all_small limit (x ∷ xs) = leb x limit && all_small limit xs

entry-small : (limit : ℕ) (xs : List ℕ) → all_small limit xs ≡ true → (i : ℕ) → get_or xs i 0 ≤ limit
unfolding all_small
entry-small limit [] h i = omega arith
entry-small limit (x ∷ xs) h zero = leb-true x limit (both (leb x limit) (all_small limit xs) h).0
entry-small limit (x ∷ xs) h (suc i) = entry-small limit xs (both (leb x limit) (all_small limit xs) h).1 i

table-small : (i : ℕ) → get_or month_lengths i 0 ≤ 31
unfolding all_small
table-small i = entry-small 31 month_lengths refl i

pub leap-small : (year : ℕ) → leap_days year ≤ 1
unfolding leap_days
leap-small year = go (eqb (year % 4) 0)
  where
    go : (b : Bool) → cond b 1 0 ≤ 1
    go true = omega arith
    go false = omega arith

pub month-small : (year month : ℕ) → month_length year month ≤ 31
unfolding month_length
month-small year month = go (eqb month 2) refl
  where
    go : (b : Bool) → eqb month 2 ≡ b → get_or month_lengths (month - 1) 0 + cond b (leap_days year) 0 ≤ 31
    go true e =
        let february : month - 1 ≡ 1 = omega (arith, eqb-true month 2 e) in
        rw february (omega (arith, leap-small year))
    go false e = omega (arith, table-small (month - 1))

-- an entry of a table whose entries are all at least a limit
all_large : ℕ → List ℕ → Bool
all_large limit [] = true
all_large limit (x ∷ xs) = leb limit x && all_large limit xs

entry-large : (limit : ℕ) (xs : List ℕ) → all_large limit xs ≡ true → (i : ℕ) → i < length xs → limit ≤ get_or xs i 0
unfolding all_large
entry-large limit [] h i l = absurd (omega arith)
entry-large limit (x ∷ xs) h zero l = leb-true limit x (both (leb limit x) (all_large limit xs) h).0
entry-large limit (x ∷ xs) h (suc i) l =
    entry-large limit xs (both (leb limit x) (all_large limit xs) h).1 i (omega arith)

pub month-large : (year month : ℕ) → 1 ≤ month → month ≤ 12 → 28 ≤ month_length year month
unfolding month_length all_large
month-large year month a b = omega (arith, entry-large 28 month_lengths refl (month - 1) (omega arith))

-- what a date's check tells of its parts
pub record Parts (d : Date) : Type 0 where
  pub year-from : 1996 ≤ d.year
  pub year-to : d.year ≤ 2099
  pub month-from : 1 ≤ d.month
  pub month-to : d.month ≤ 12
  pub day-from : 1 ≤ d.day
  pub day-to : d.day ≤ month_length d.year d.month
  pub day-small : d.day ≤ 31

pub parts : (d : Date) → is_date d ≡ true → Parts d
unfolding is_date
parts d h =
    let a = leb 1996 d.year in
    let b = leb d.year 2099 in
    let e = leb 1 d.month in
    let f = leb d.month 12 in
    let g = leb 1 d.day in
    let l = month_length d.year d.month in
    let all = both (a && b && e && f && g) (leb d.day l) h in
    let day = both (a && b && e && f) g all.0 in
    let month = both (a && b && e) f day.0 in
    let first = both (a && b) e month.0 in
    let year = both a b first.0 in
    let day-to : d.day ≤ l = leb-true d.day l all.1 in
    record {
      year-from = leb-true 1996 d.year year.0;
      year-to = leb-true d.year 2099 year.1;
      month-from = leb-true 1 d.month first.1;
      month-to = leb-true d.month 12 month.1;
      day-from = leb-true 1 d.day day.1;
      day-to = day-to;
      day-small = omega (arith, month-small d.year d.month);
    }

-- where year, month and day are in range, the month's length l decides
by_length : (d : Date) (l : ℕ) → 1996 ≤ d.year → d.year ≤ 2099 → 1 ≤ d.month → d.month ≤ 12 → 1 ≤ d.day → l ≡ month_length d.year d.month → leb d.day l ≡ is_date d
unfolding is_date
by_length d l a b e f g h =
    rw (le-leb 1996 d.year a, le-leb d.year 2099 b, le-leb 1 d.month e, le-leb d.month 12 f, le-leb 1 d.day g, h)

-- the parts make a date
pub is-date : (d : Date) → 1996 ≤ d.year → d.year ≤ 2099 → 1 ≤ d.month → d.month ≤ 12 → 1 ≤ d.day → d.day ≤ month_length d.year d.month → is_date d ≡ true
is-date d a b e f g l =
    let length = month_length d.year d.month in
    sym (by_length d length a b e f g refl) ∙ le-leb d.day length l

-- one month more
pub months-next : (year m : ℕ) → days_of_months year (m + 1) ≡ days_of_months year m + month_length year (m + 1)
unfolding days_of_months
months-next year m = rw add-one

months-rise : (year m k : ℕ) → days_of_months year m ≤ days_of_months year (k + m)
unfolding days_of_months
months-rise year m zero = rw zero-add (le_refl (days_of_months year m))
months-rise year m (suc k) =
    rw suc-add (omega (arith, months-rise year m k))

-- a month is over before a later one begins
pub months-over : (year m n : ℕ) → 1 ≤ m → m < n → days_of_months year (m - 1) + month_length year m ≤ days_of_months year (n - 1)
months-over year m n a b =
    let one : m - 1 + 1 ≡ m = omega arith in
    let all : n - 1 - m + m ≡ n - 1 = omega arith in
    let next : days_of_months year m ≡ days_of_months year (m - 1) + month_length year m = rw one at (months-next year (m - 1)) in
    let rise : days_of_months year m ≤ days_of_months year (n - 1) = rw all at (months-rise year m (n - 1 - m)) in
    omega arith

-- no month stands before January
pub january : (year : ℕ) → days_of_months year 0 ≡ 0
unfolding days_of_months
january year = refl

pub months-all : (year : ℕ) → days_of_months year 12 ≡ 365 + leap_days year
unfolding days_of_months month_length
months-all year = omega arith

-- "1 January is day t = 1 and 31 December is 365 or 366"
pub day-of-year-range : (d : Date) → is_date d ≡ true → (1 ≤ day_of_year d) × (day_of_year d ≤ 365 + leap_days d.year)
unfolding day_of_year
day-of-year-range d h =
    let p = parts d h in
    (omega arith, omega (arith, months-over d.year d.month 13 p.month-from (omega arith), months-all d.year))

-- the year and the t of a day of the span
pub day_in_range : (d : Date) {t : ℕ} → is_date d ≡ true → t ≡ day_of_year d → (1996 ≤ d.year) × (d.year ≤ 2099) × (1 ≤ t) × (t ≤ 366)
day_in_range d h e =
    let p = parts d h in
    let range = day-of-year-range d h in
    (p.year-from, p.year-to, omega arith, omega (arith, leap-small d.year))

-- all but the last month
pub months_small : (year m : ℕ) → days_of_months year m ≤ 31 * m
unfolding days_of_months
months_small year zero = omega arith
months_small year (suc m) = omega (arith, months_small year m, month-small year (suc m))

-- one year more
pub years-next : (n : ℕ) → days_of_years (n + 1) ≡ days_of_years n + (365 + leap_days (1996 + n))
unfolding days_of_years
years-next n = rw add-one

-- of each four years the first has the leap day
pub years-closed : (n : ℕ) → days_of_years n ≡ n * 365 + (n + 3) / 4
unfolding days_of_years leap_days
years-closed zero = refl
years-closed (suc n) = go (eqb ((1996 + n) % 4) 0) refl (years-closed n)
  where
    go : (b : Bool) → eqb ((1996 + n) % 4) 0 ≡ b → days_of_years n ≡ n * 365 + (n + 3) / 4 → days_of_years n + (365 + cond b 1 0) ≡ suc n * 365 + (suc n + 3) / 4
    go true e h = omega (arith, eqb-true ((1996 + n) % 4) 0 e)
    go false e h = omega (arith, eqb-false ((1996 + n) % 4) 0 e)

-- a day number is small
pub number_small : (d : Date) → is_date d ≡ true → day_number d < 40_000
unfolding day_number
number_small d h =
    omega (arith, parts d h, day-of-year-range d h, leap-small d.year, years-closed (d.year - 1996))
