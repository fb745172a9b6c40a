-- The days gathered in the calendar's order make the same list as those in the paper's order: both are rising and have the same dates,
-- which is seen by counting. Assumes nothing.
use mathlib.Core.Path.{◌≡◌, refl, sym, ◌∙◌, ap}
use mathlib.Core.Bool.{Bool, true, false, cond}
use mathlib.Core.List.{List, [], ◌∷◌, ◌++◌, map}
use Prim.Native.Nat.{ℕ, ◌+◌, ◌/◌, ◌%◌}
use native.Mathlib.Nat.{zero-add}
use native.Mathlib.Omega.{arith}
use lib.Dec.{ltb, eqb}
use Rattle.std.specs.Prelude.{Option, None, Some}
use borrow.Author.Tests.{lt-ltb}
use Rattle.calendar_dates.specs.declared.Date.{Date}
use Rattle.calendar_dates.specs.Dates.{number_of}
use Rattle.calendar_holidays.specs.Holidays.{listed}
use Rattle.calendar_public_holidays.specs.Days.{federal_days, regional_days}
use Rattle.calendar_public_holidays.specs.YearHolidays.{chosen, chosen_days, in_order, year_holidays}
use Rattle.calendar_year_list.specs.Inside.{regional, calendar_days, wanted}
use Rattle.calendar_public_holidays.proofs.InOrder.{order-listed, order-rising, one_list}

-- How often a date is met among the days that are wanted.
abbrev meets : ℕ → Option ℕ → ℕ
meets d None = 0
meets d (Some date) = cond (eqb date d) 1 0

abbrev count : ℕ → List (Option ℕ) → ℕ
count d [] = 0
count d (day ∷ days) = meets d day + count d days

listed-counted : (d : ℕ) (days : List (Option ℕ)) → listed d (wanted days) ≡ ltb 0 (count d days)
unfolding listed
listed-counted d [] = refl
listed-counted d (None ∷ days) = rw (zero-add (count d days)) (listed-counted d days)
listed-counted d (Some date ∷ days) = go (eqb date d) refl (listed-counted d days)
  where
    go : (b : Bool) → eqb date d ≡ b → listed d (wanted days) ≡ ltb 0 (count d days) →
        listed d (date ∷ wanted days) ≡ ltb 0 (cond b 1 0 + count d days)
    go true t h = rw t (sym (lt-ltb 0 (1 + count d days) (omega arith)))
    go false t h = rw (t, zero-add (count d days)) h

-- The paper's order: the federal days, then the regional ones with their bits.
abbrev flagged : ℕ → List Date → List (Option ℕ)
flagged bits [] = []
flagged bits (d ∷ days) = regional bits (number_of d) ∷ flagged (bits / 2) days

chosen-flagged : (bits : ℕ) (days : List Date) → map number_of (chosen bits days) ≡ wanted (flagged bits days)
unfolding chosen
chosen-flagged bits [] = refl
chosen-flagged bits (d ∷ days) = go (eqb (bits % 2) 1) (chosen-flagged (bits / 2) days)
  where
    go : (b : Bool) → map number_of (chosen (bits / 2) days) ≡ wanted (flagged (bits / 2) days) →
        map number_of (cond b (d ∷ chosen (bits / 2) days) (chosen (bits / 2) days))
        ≡ wanted (cond b (Some (number_of d)) None ∷ flagged (bits / 2) days)
    go true h = ap (λ dates. number_of d ∷ dates) h
    go false h = h

abbrev federal : Date → Option ℕ
federal d = Some (number_of d)

abbrev paper_days : ℕ → ℕ → List (Option ℕ)
paper_days year choice = map federal (federal_days year) ++ flagged choice (regional_days year)

federal-first : (days rest : List Date) (others : List (Option ℕ)) → map number_of rest ≡ wanted others →
    map number_of (days ++ rest) ≡ wanted (map federal days ++ others)
federal-first [] rest others h = h
federal-first (d ∷ days) rest others h = ap (λ dates. number_of d ∷ dates) (federal-first days rest others h)

chosen-days : (year choice : ℕ) → chosen_days year choice ≡ wanted (paper_days year choice)
unfolding chosen_days
chosen-days year choice =
    federal-first (federal_days year) _ (flagged choice (regional_days year)) (chosen-flagged choice (regional_days year))

-- seventeen numbers in the two orders
orders : (a b c d e f g h i j k l m n o p q : ℕ) →
    a + (b + (c + (d + (e + (f + (g + (h + (i + (j + (k + (l + (m + (n + (o + (p + (q + 0))))))))))))))))
    ≡ a + (c + (d + (e + (f + (g + (h + (i + (l + (p + (q + (b + (j + (k + (m + (n + (o + 0))))))))))))))))
orders a b c d e f g h i j k l m n o p q = omega arith

count_same : (year choice d : ℕ) → count d (calendar_days year choice) ≡ count d (paper_days year choice)
unfolding calendar_days
count_same year choice d =
    let bit-2 : choice / 2 / 2 ≡ choice / 4 = omega arith in
    let bit-3 : choice / 4 / 2 ≡ choice / 8 = omega arith in
    let bit-4 : choice / 8 / 2 ≡ choice / 16 = omega arith in
    let bit-5 : choice / 16 / 2 ≡ choice / 32 = omega arith in
    rw (bit-2, bit-3, bit-4, bit-5) (orders _ _ _ _ _ _ _ _ _ _ _ _ _ _ _ _ _)

-- those of the calendar that are wanted, in order, are the holiday list
pub wanted_list : (year choice : ℕ) → in_order (wanted (calendar_days year choice)) ≡ year_holidays year choice
unfolding year_holidays
wanted_list year choice =
    one_list _ _ (order-rising (wanted (calendar_days year choice))) (order-rising (chosen_days year choice))
    (λ d.
    order-listed d (wanted (calendar_days year choice))
    ∙ listed-counted d (calendar_days year choice)
    ∙ ap (ltb 0) (count_same year choice d)
    ∙ sym (listed-counted d (paper_days year choice))
    ∙ ap (listed d) (sym (chosen-days year choice))
    ∙ sym (order-listed d (chosen_days year choice)))
