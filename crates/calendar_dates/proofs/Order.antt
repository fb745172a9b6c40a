-- Dates have the order of their day numbers: a later date stands in a later year, or in a later month of the year, or on a
-- later day of the month, and each of these has a higher day number.
-- Assumes nothing.
use mathlib.Core.Path.{◌≡◌, refl, ap}
use mathlib.Core.Bool.{Bool, true, false}
use Prim.Native.Nat.{ℕ, ◌+◌, ◌-◌, ◌≤◌, ◌<◌}
use native.Mathlib.Omega.{arith}
use lib.Dec.{ltb}
use borrow.Author.Tests.{ltb-true, ltb-false}
use Rattle.calendar_dates.specs.declared.Date.{Date}
use Rattle.calendar_dates.specs.Dates.{number_of, leap_days, is_date, day_of_year, days_of_years, day_number}
use Rattle.calendar_dates.proofs.Dates.{Parts, parts, months-over, day-of-year-range, years-next, years-closed}

-- a year is over before a later one begins
year-over : (n m : ℕ) → n < m → days_of_years n + (365 + leap_days (1996 + n)) ≤ days_of_years m
year-over n m h = omega (arith, years-next n, years-closed (n + 1), years-closed m)

-- a date is its three parts
same_parts : {y m d y' m' d' : ℕ} → y ≡ y' → m ≡ m' → d ≡ d' → ◌≡◌ {A = Date} (record { year = y; month = m; day = d }) (record { year = y'; month = m'; day = d' })
same_parts y m d = rw (y, m, d)

module _ (a b : Date) (p : is_date a ≡ true) (q : is_date b ≡ true) where
  later-year : a.year < b.year → day_number a < day_number b
  unfolding day_number
  later-year h =
      let f = parts a p in
      let year : 1996 + (a.year - 1996) ≡ a.year = omega arith in
      let leap : leap_days (1996 + (a.year - 1996)) ≡ leap_days a.year = ap leap_days year in
      omega (arith, year-over (a.year - 1996) (b.year - 1996) (omega arith), day-of-year-range a p)

  -- in one year the day of the year decides
  same-year : a.year ≡ b.year → day_of_year a < day_of_year b → day_number a < day_number b
  unfolding day_number
  same-year e h =
      let years : days_of_years (a.year - 1996) ≡ days_of_years (b.year - 1996) = ap (λ (y : ℕ). days_of_years (y - 1996)) e in
      omega (arith, day-of-year-range a p)

  later-month : a.year ≡ b.year → a.month < b.month → day_of_year a < day_of_year b
  unfolding day_of_year
  later-month e h =
      let f = parts a p in
      let g = parts b q in
      rw (← e) (omega (arith, months-over a.year a.month b.month f.month-from h))

  later-day : a.year ≡ b.year → a.month ≡ b.month → a.day < b.day → day_of_year a < day_of_year b
  unfolding day_of_year
  later-day e m h = rw (← e, ← m) (omega arith)

  pub by-day : number_of a < number_of b → day_number a < day_number b
  by-day h = by-year (ltb a.year b.year) refl
    where
      f : Parts a
      f = parts a p

      g : Parts b
      g = parts b q

      by-month : a.year ≡ b.year → (t : Bool) → ltb a.month b.month ≡ t → day_number a < day_number b
      by-month e true m = same-year e (later-month e (ltb-true a.month b.month m))
      by-month e false m =
          let l : b.month ≤ a.month = ltb-false a.month b.month m in
          same-year e (later-day e (omega (arith, f, g)) (omega (arith, f, g)))

      by-year : (t : Bool) → ltb a.year b.year ≡ t → day_number a < day_number b
      by-year true y = later-year (ltb-true a.year b.year y)
      by-year false y =
          let l : b.year ≤ a.year = ltb-false a.year b.year y in
          by-month (omega (arith, f, g)) (ltb a.month b.month) refl

  same_number : number_of a ≡ number_of b → a ≡ b
  same_number h =
      let f = parts a p in
      let g = parts b q in
      same_parts (omega arith) (omega arith) (omega arith)

-- of two dates one is earlier, or they are one date
data Compared (a b : Date) : Type 0 where
  earlier : number_of a < number_of b → day_number a < day_number b → Compared a b
  same : a ≡ b → Compared a b
  later : number_of b < number_of a → day_number b < day_number a → Compared a b

compared : (a b : Date) → is_date a ≡ true → is_date b ≡ true → Compared a b
compared a b p q = go (ltb (number_of a) (number_of b)) refl (ltb (number_of b) (number_of a)) refl
  where
    go : (s : Bool) → ltb (number_of a) (number_of b) ≡ s → (t : Bool) → ltb (number_of b) (number_of a) ≡ t → Compared a b
    go true e t f = let l = ltb-true (number_of a) (number_of b) e in earlier l (by-day a b p q l)
    go false e true f = let l = ltb-true (number_of b) (number_of a) f in later l (by-day b a q p l)
    go false e false f = same (same_number a b p q (omega (arith, ltb-false (number_of a) (number_of b) e, ltb-false (number_of b) (number_of a) f)))

pub by-number : (a b : Date) → is_date a ≡ true → is_date b ≡ true → day_number a < day_number b → number_of a < number_of b
by-number a b p q = go (compared a b p q)
  where
    go : Compared a b → day_number a < day_number b → number_of a < number_of b
    go (earlier l d) h = l
    go (same e) h = absurd (omega (arith, ap day_number e))
    go (later l d) h = absurd (omega arith)

pub same-day : (a b : Date) → is_date a ≡ true → is_date b ≡ true → day_number a ≡ day_number b → a ≡ b
same-day a b p q h = go (compared a b p q)
  where
    go : Compared a b → a ≡ b
    go (earlier l d) = absurd (omega arith)
    go (same e) = e
    go (later l d) = absurd (omega arith)
