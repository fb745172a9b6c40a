-- Document 01, "Calendar": dates, day numbers, weekdays and the day of the year.
use Rattle.std.specs.Prelude.{List, [], ◌∷◌, ◌++◌, length, replicate, get_or, decimal}
use Rattle.std.specs.Prelude.{◌≡◌, Bool, true, cond, ◌&&◌, ℕ, zero, suc, ◌+◌, ◌-◌, ◌*◌, ◌/◌, ◌%◌, ◌<◌, leb, ltb, eqb}
use Rattle.calendar_dates.specs.declared.Date.{Date}

-- "lent as numbers yyyymmdd"
abbrev pub date_of : ℕ → Date
date_of n = record { year = n / 10_000; month = n / 100 % 100; day = n % 100 }

abbrev pub number_of : Date → ℕ
number_of d = d.year * 10_000 + d.month * 100 + d.day

-- a number in decimal, with zeros (code 48) in front of it up to `digits` digits
abbrev pub with_zeros : ℕ → ℕ → List ℕ
with_zeros digits n = replicate (digits - length (decimal n)) 48 ++ decimal n

-- what a date's `Display` prints: yyyy-mm-dd, with hyphens (code 45); any three numbers have such a text
abbrev pub date_display : Date → List ℕ
date_display d = with_zeros 4 d.year ++ (45 ∷ (with_zeros 2 d.month ++ (45 ∷ with_zeros 2 d.day)))

-- "Month lengths come from one table of twelve lengths."
abbrev pub month_lengths : List ℕ
month_lengths = 31 ∷ 28 ∷ 31 ∷ 30 ∷ 31 ∷ 30 ∷ 31 ∷ 31 ∷ 30 ∷ 31 ∷ 30 ∷ 31 ∷ []

-- "In this span a year divisible by four is a leap year."
unfoldable pub leap_days : ℕ → ℕ
leap_days year = cond (eqb (year % 4) 0) 1 0

-- the table's length, and in February the leap day, for months 1 to 12
unfoldable pub month_length : ℕ → ℕ → ℕ
month_length year month = get_or month_lengths (month - 1) 0 + cond (eqb month 2) (leap_days year) 0

-- "Gregorian dates from 1996-01-01 to 2099-12-31"
unfoldable pub is_date : Date → Bool
is_date d =
    leb 1996 d.year && leb d.year 2099
    && leb 1 d.month
    && leb d.month 12
    && leb 1 d.day
    && leb d.day (month_length d.year d.month)

-- the days of a year's first m months
unfoldable pub days_of_months : ℕ → ℕ → ℕ
days_of_months year zero = 0
days_of_months year (suc m) = days_of_months year m + month_length year (suc m)

-- "1 January is day t = 1 and 31 December is 365 or 366."
unfoldable pub day_of_year : Date → ℕ
day_of_year d = days_of_months d.year (d.month - 1) + d.day

-- the days of the first n years of the span
unfoldable pub days_of_years : ℕ → ℕ
days_of_years zero = 0
days_of_years (suc n) = days_of_years n + (365 + leap_days (1996 + n))

-- the days since 1 January 1996
unfoldable pub day_number : Date → ℕ
day_number d = days_of_years (d.year - 1996) + (day_of_year d - 1)

-- "weekday (1 Monday to 7 Sunday)"; 1 January 1996 was a Monday
unfoldable pub weekday_of : Date → ℕ
weekday_of d = day_number d % 7 + 1

-- the date of the next day
unfoldable pub next_day : Date → Date
next_day d =
    cond (ltb d.day (month_length d.year d.month))
    (record { year = d.year; month = d.month; day = d.day + 1 })
    (cond (ltb d.month 12)
    (record { year = d.year; month = d.month + 1; day = 1 })
    (record { year = d.year + 1; month = 1; day = 1 }))

-- the date k days later
unfoldable pub days_later : ℕ → Date → Date
days_later zero d = d
days_later (suc k) d = days_later k (next_day d)

-- each of n days from a date on is a date
abbrev pub AllDates : ℕ → Date → Type 0
AllDates n d = (k : ℕ) → k < n → is_date (days_later k d) ≡ true
