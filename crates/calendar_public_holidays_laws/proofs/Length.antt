-- How many dates the list has. Assumes nothing.
use mathlib.Core.Path.{◌≡◌, refl, sym, ◌∙◌, ap}
use mathlib.Core.Bool.{Bool, true, false, cond, ◌||◌}
use mathlib.Core.List.{List, [], ◌∷◌, ◌++◌, map}
use Prim.Native.Nat.{ℕ, suc, ◌/◌, ◌%◌, ◌≤◌}
use native.Mathlib.Omega.{arith}
use native.Mathlib.Nat.{le_refl}
use lib.Dec.{leb, ltb, eqb, leb→le}
use lib.ListN.{length, length-append, length-map}
use borrow.Author.Tests.{ne_eqb, ltb-true, ltb-false}
use Rattle.lists.specs.Lists.{Rising}
use Rattle.calendar_dates.specs.Dates.{number_of, leap_days, month_length, days_of_months, day_of_year, days_of_years, day_number, weekday_of, next_day, days_later}
use Rattle.calendar_holidays.specs.Holidays.{listed}
use Rattle.calendar_movable_days.specs.Counted.{march_day, days_until}
use Rattle.calendar_movable_days.specs.Easter.{golden_number, century, solar_correction, lunar_correction, cycle_epact, epact, paschal_full_moon, easter_day}
use Rattle.calendar_movable_days.specs.Inside.{InSpan}
use Rattle.calendar_movable_days.proofs.Years.{in-year}
use Rattle.calendar_public_holidays.specs.Days.{federal_days, regional_days}
use Rattle.calendar_public_holidays.specs.YearHolidays.{chosen, chosen_days, inserted, in_order, year_holidays}
use Rattle.calendar_public_holidays.proofs.InOrder.{order-listed, order-rising, not_listed, first-listed, contradiction}
use Rattle.calendar_public_holidays_laws.proofs.Members.{listed-both}

-- one date more makes a list at most one longer
inserted-length : (date : ℕ) (dates : List ℕ) → length (inserted date dates) ≤ suc (length dates)
unfolding inserted
inserted-length date [] = le_refl 1
inserted-length date (next ∷ dates) = go (ltb date next) (eqb date next) (inserted-length date dates)
  where
    go : (p q : Bool) → length (inserted date dates) ≤ suc (length dates) →
        length (cond p (date ∷ next ∷ dates) (cond q (next ∷ dates) (next ∷ inserted date dates))) ≤ suc (suc (length dates))
    go true q h = omega arith
    go false true h = omega arith
    go false false h = omega arith

in-order-length : (dates : List ℕ) → length (in_order dates) ≤ length dates
unfolding in_order
in-order-length [] = le_refl 0
in-order-length (date ∷ dates) = omega (arith, inserted-length date (in_order dates), in-order-length dates)

chosen-length : {A : Type 0} (bits : ℕ) (days : List A) → length (chosen bits days) ≤ length days
unfolding chosen
chosen-length bits [] = le_refl 0
chosen-length bits (day ∷ days) = go (eqb (bits % 2) 1) (chosen-length (bits / 2) days)
  where
    go : (b : Bool) → length (chosen (bits / 2) days) ≤ length days →
        length (cond b (day ∷ chosen (bits / 2) days) (chosen (bits / 2) days)) ≤ suc (length days)
    go true h = omega arith
    go false h = omega arith

pub at-most-17 : (year choice : ℕ) → length (year_holidays year choice) ≤ 17
unfolding year_holidays chosen_days
at-most-17 year choice =
    omega
    (arith, in-order-length (chosen_days year choice), length-map (federal_days year ++ chosen choice (regional_days year)) number_of, length-append (federal_days year) (chosen choice (regional_days year)), chosen-length choice (regional_days year))

-- a date of a list that is not its first one
behind-first : (d first : ℕ) (dates : List ℕ) → (first ≡ d → ⊥) → listed d (first ∷ dates) ≡ true → listed d dates ≡ true
unfolding listed
behind-first d first dates n h = rw (ne_eqb first d n) at h

also-behind : (d first : ℕ) (dates : List ℕ) → listed d dates ≡ true → listed d (first ∷ dates) ≡ true
unfolding listed
also-behind d first dates h = go (eqb first d)
  where
    go : (b : Bool) → (b || listed d dates) ≡ true
    go true = refl
    go false = h

-- a rising list all of whose dates another one has is not longer
not-longer : (xs ys : List ℕ) → Rising xs → Rising ys → ((d : ℕ) → listed d xs ≡ true → listed d ys ≡ true) → length xs ≤ length ys
not-longer [] ys r s h = omega arith
not-longer (x ∷ xs) [] r s h = contradiction (listed x []) (listed x []) refl (h x (first-listed x xs)) (not_listed x [] tt tt)
not-longer (x ∷ xs) (y ∷ ys) r s h = go (ltb x y) refl (ltb y x) refl (not-longer xs ys r.1 s.1) (not-longer (x ∷ xs) ys r s.1)
  where
    go : (p : Bool) → ltb x y ≡ p → (q : Bool) → ltb y x ≡ q → (((d : ℕ) → listed d xs ≡ true → listed d ys ≡ true) → length xs ≤ length ys) →
        (((d : ℕ) → listed d (x ∷ xs) ≡ true → listed d ys ≡ true) → suc (length xs) ≤ length ys) → suc (length xs) ≤ suc (length ys)
    go true e q f both later =
        contradiction (listed x (y ∷ ys)) (listed x (y ∷ ys)) refl (h x (first-listed x xs)) (not_listed x (y ∷ ys) (ltb-true x y e) s)
    go false e true f both later =
        omega
        (arith, later (λ d t. behind-first d y ys (λ same. contradiction (listed d (x ∷ xs)) (listed y (x ∷ xs)) (ap (λ k. listed k (x ∷ xs)) (sym same)) t (not_listed y (x ∷ xs) (ltb-true y x f) r)) (h d t)))
    go false e false f both later =
        let same : x ≡ y = omega (arith, ltb-false x y e, ltb-false y x f) in
        omega
        (arith, both (λ d t. behind-first d y ys (λ equal. contradiction (listed d xs) (listed x xs) (ap (λ k. listed k xs) (sym (same ∙ equal))) t (not_listed x xs r.0 r.1)) (h d (also-behind d x xs t))))

-- the federal days of a year alone, computed
abbrev ten : ℕ → Bool
ten year = leb 10 (length (year_holidays year 0))

federal-length : (year : ℕ) → InSpan year → 10 ≤ length (year_holidays year 0)
unfolding leap_days month_length days_of_months day_of_year days_of_years day_number weekday_of next_day days_later golden_number century solar_correction lunar_correction cycle_epact epact paschal_full_moon march_day days_until easter_day chosen chosen_days inserted in_order year_holidays
federal-length year s = leb→le 10 (length (year_holidays year 0)) (in-year ten tt year s)

-- and they are in every list
federal-in-all : (year choice d : ℕ) → listed d (year_holidays year 0) ≡ true → listed d (year_holidays year choice) ≡ true
unfolding chosen chosen_days year_holidays listed
federal-in-all year choice d h =
    let federal = listed d (map number_of (federal_days year)) in
    let chosen-too = listed d (map number_of (chosen choice (regional_days year))) in
    let here : (federal || false) ≡ true = sym (listed-both d (federal_days year) []) ∙ sym (order-listed d (chosen_days year 0)) ∙ h in
    order-listed d (chosen_days year choice) ∙ listed-both d (federal_days year) (chosen choice (regional_days year)) ∙ go federal chosen-too here
  where
    go : (a b : Bool) → (a || false) ≡ true → (a || b) ≡ true
    go true b t = refl
    go false b t = contradiction false false refl t refl

pub at-least-10 : (year choice : ℕ) → InSpan year → 10 ≤ length (year_holidays year choice)
unfolding year_holidays
at-least-10 year choice s =
    omega
    (arith, federal-length year s, not-longer (year_holidays year 0) (year_holidays year choice) (order-rising (chosen_days year 0)) (order-rising (chosen_days year choice)) (federal-in-all year choice))
