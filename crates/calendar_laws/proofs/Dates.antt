-- What holds of every date. Assumes nothing.
use mathlib.Core.Path.{◌≡◌, refl}
use mathlib.Core.Bool.{true}
use Prim.Native.Nat.{ℕ, ◌/◌, ◌%◌}
use native.Mathlib.Omega.{arith}
use Rattle.calendar_dates.specs.declared.Date.{Date}
use Rattle.calendar_dates.specs.Dates.{date_of, number_of, month_length, is_date, days_of_months, day_of_year}
use Rattle.calendar_dates.proofs.Dates.{parts, day-of-year-range}
use Rattle.calendar_dates.proofs.NextDay.{next-day-counts}
use Rattle.calendar_laws.specs.Dates.{YearCounted, DatesCounted}

-- the parts of a date's number are the date's
numbered : (d : Date) → is_date d ≡ true → date_of (number_of d) ≡ d
numbered d h =
    let p = parts d h in
    let year : number_of d / 10_000 ≡ d.year = omega (arith, p) in
    let month : number_of d / 100 % 100 ≡ d.month = omega (arith, p) in
    let day : number_of d % 100 ≡ d.day = omega (arith, p) in
    rw (year, month, day)

-- the months of a year, added up
year-counted : (year : ℕ) → YearCounted year
unfolding day_of_year days_of_months month_length
year-counted year = record { first = refl; last = omega arith }

pub dates-counted : DatesCounted
unfolding DatesCounted
dates-counted = (
  λ d h.
      let range = day-of-year-range d h in
      let next = next-day-counts d h in
      record { from_one = range.0; to_year_end = range.1; numbered = numbered d h; next_counts = next.counts; next_later = next.later; next_is_date = next.is_date_too },
  λ n. omega arith,
  year-counted,
)
