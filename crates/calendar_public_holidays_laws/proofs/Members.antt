-- A date stands in the list exactly when it is one of the chosen days. Assumes nothing.
use mathlib.Core.Path.{◌≡◌, refl, sym, ◌∙◌}
use mathlib.Core.Bool.{or_assoc, Bool, true, false, cond, ◌&&◌, ◌||◌}
use mathlib.Core.List.{List, [], ◌∷◌, ◌++◌, map}
use Prim.Native.Nat.{ℕ, ◌/◌, ◌%◌}
use native.Mathlib.Omega.{arith}
use lib.Dec.{eqb}
use Rattle.calendar_dates.specs.declared.Date.{Date}
use Rattle.calendar_dates.specs.Dates.{number_of}
use Rattle.calendar_holidays.specs.Holidays.{listed}
use Rattle.calendar_movable_days.specs.Counted.{on}
use Rattle.calendar_movable_days.specs.Repentance.{repentance}
use Rattle.calendar_public_holidays.specs.Days.{corpus_christi, federal_days, regional_days}
use Rattle.calendar_public_holidays.specs.YearHolidays.{chosen, chosen_days, year_holidays}
use Rattle.calendar_public_holidays.proofs.InOrder.{order-listed}
use Rattle.calendar_public_holidays_laws.specs.List.{is_chosen}

-- dates of two lists, one behind the other
pub listed-both : (d : ℕ) (first second : List Date) →
    listed d (map number_of (first ++ second)) ≡ (listed d (map number_of first) || listed d (map number_of second))
unfolding listed
listed-both d [] second = refl
listed-both d (day ∷ first) second = rw (listed-both d first second) (sym (or_assoc (eqb (number_of day) d) (listed d (map number_of first)) (listed d (map number_of second))))

-- the first of the days that may be chosen, by its bit
listed-first : (d bits : ℕ) (day : Date) (days : List Date) →
    listed d (map number_of (chosen bits (day ∷ days)))
    ≡ (eqb (bits % 2) 1 && eqb (number_of day) d || listed d (map number_of (chosen (bits / 2) days)))
unfolding listed chosen
listed-first d bits day days = go (eqb (bits % 2) 1)
  where
    go : (b : Bool) → listed d (map number_of (cond b (day ∷ chosen (bits / 2) days) (chosen (bits / 2) days)))
        ≡ (b && eqb (number_of day) d || listed d (map number_of (chosen (bits / 2) days)))
    go true = refl
    go false = refl

listed-none : (d bits : ℕ) → listed d (map number_of (chosen bits [])) ≡ false
unfolding listed chosen
listed-none d bits = refl

regroup : (f a b c d e g : Bool) → (f || (a || (b || (c || (d || (e || (g || false))))))) ≡ (f || a || b || c || d || e || g)
regroup true a b c d e g = refl
regroup false true b c d e g = refl
regroup false false true c d e g = refl
regroup false false false true d e g = refl
regroup false false false false true e g = refl
regroup false false false false false true g = refl
regroup false false false false false false true = refl
regroup false false false false false false false = refl

pub has_chosen : (year choice date : ℕ) → listed date (year_holidays year choice) ≡ is_chosen year choice date
unfolding year_holidays chosen_days is_chosen
has_chosen year choice date =
    let bit-0 : choice / 1 ≡ choice = omega arith in
    let bit-2 : choice / 2 / 2 ≡ choice / 4 = omega arith in
    let bit-3 : choice / 4 / 2 ≡ choice / 8 = omega arith in
    let bit-4 : choice / 8 / 2 ≡ choice / 16 = omega arith in
    let bit-5 : choice / 16 / 2 ≡ choice / 32 = omega arith in
    order-listed date (chosen_days year choice)
    ∙ listed-both date (federal_days year) (chosen choice (regional_days year))
    ∙ rw (listed-first, listed-first, listed-first, listed-first, listed-first, listed-first, listed-none, bit-0, bit-2, bit-3, bit-4, bit-5)
    (regroup (listed date (map number_of (federal_days year))) (eqb (choice % 2) 1 && eqb (number_of (on year 1 6)) date)
    (eqb (choice / 2 % 2) 1 && eqb (number_of (corpus_christi year)) date) (eqb (choice / 4 % 2) 1 && eqb (number_of (on year 8 15)) date)
    (eqb (choice / 8 % 2) 1 && eqb (number_of (on year 10 31)) date) (eqb (choice / 16 % 2) 1 && eqb (number_of (on year 11 1)) date)
    (eqb (choice / 32 % 2) 1 && eqb (number_of (repentance year)) date))
