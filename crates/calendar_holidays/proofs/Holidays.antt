-- A list that is in order rises, so a date is listed just where it comes before a later one.
-- Assumes nothing.
use mathlib.Core.Path.{◌≡◌, refl, ◌∙◌, ap}
use mathlib.Core.Bool.{Bool, true, false, cond, ◌&&◌, ◌||◌}
use mathlib.Core.List.{List, [], ◌∷◌}
use Prim.Native.Nat.{ℕ, suc, ◌+◌, ◌-◌, ◌*◌, ◌≤◌, ◌<◌}
use native.Mathlib.Omega.{arith}
use native.Mathlib.Numerals.{add-one}
use lib.Dec.{ltb, eqb}
use lib.ListN.{length, drop, get_or}
use Rattle.std.specs.List.{slice_index, list_any, prefix_len}
use Rattle.std.specs.List.Sorted.{IsStrictlyIncreasing}
use Rattle.std.proofs.lemmas.List.Kept.{AllPairs-from_increasing}
use borrow.Author.Tests.{ltb-true, ltb-false, ne_eqb}
use Rattle.refusal.specs.declared.Refusal.TheVariants.{BadHoliday}
use Rattle.refusal.specs.Questions.{Pass}
use Rattle.refusal.proofs.Questions.{ask-passed, each-passed, both}
use Rattle.calendar_dates.specs.Dates.{date_of, is_date}
use Rattle.calendar_holidays.specs.Holidays.{listed, holiday_question, holidays_question}
use Rattle.calendar_holidays.specs.Inside.{entries_from}

-- whether a list has a date is what the library's search tells
pub listed_any : (date : ℕ) (xs : List ℕ) → list_any (λ x. eqb x date) xs ≡ listed date xs
unfolding listed
listed_any date [] = refl
listed_any date (x ∷ xs) = ap (λ (rest : Bool). eqb x date || rest) (listed_any date xs)

-- an earlier entry is passed over
listed-behind : (date : ℕ) (whole : List ℕ) {x : ℕ} {xs : List ℕ} → whole ≡ x ∷ xs → x < date → listed date xs ≡ listed date whole
unfolding listed
listed-behind date whole {x} e h = rw (e, ne_eqb x date (λ e. omega arith))

-- of nothing nothing is listed
listed-none : (date : ℕ) (whole : List ℕ) → length whole ≡ 0 → false ≡ listed date whole
unfolding listed
listed-none date [] e = refl
listed-none date (x ∷ xs) e = absurd (omega arith)

-- where all entries are later, a date is not listed
nowhere : (date : ℕ) (xs : List ℕ) → ((i : ℕ) → i < length xs → date < slice_index xs i) → false ≡ listed date xs
unfolding listed
nowhere date [] h = refl
nowhere date (x ∷ xs) h = rw (ne_eqb x date (λ e. omega (arith, h 0 (omega arith)))) (nowhere date xs (λ i l. h (suc i) (omega arith)))

-- the dates of a list in order rise
later-than-before : (holidays : List ℕ) (index : ℕ) → 0 < index → holiday_question holidays index ≡ Pass →
    get_or holidays (index - 1) 0 < get_or holidays index 0
unfolding holiday_question
later-than-before holidays index h asked =
    let real = ltb index 400 && is_date (date_of (get_or holidays index 0)) in
    let rising = ltb (get_or holidays (index - 1) 0) (get_or holidays index 0) in
    let tests = both real (eqb index 0 || rising) (ask-passed (real && (eqb index 0 || rising)) (BadHoliday index) asked) in
    let other : eqb index 0 ≡ false = ne_eqb index 0 (λ e. omega arith) in
    ltb-true (get_or holidays (index - 1) 0) (get_or holidays index 0) (rw other at tests.1)

module _ (holidays : List ℕ) (in_order : holidays_question holidays ≡ Pass) where
  pub rises : IsStrictlyIncreasing holidays
  unfolding holidays_question
  rises i h =
      let at : 0 + (i + 1) * 1 ≡ i + 1 = omega arith in
      let asked : holiday_question holidays (i + 1) ≡ Pass = rw at at (each-passed (holiday_question holidays) 1 (length holidays) 0 (i + 1) in_order h) in
      let previous : i + 1 - 1 ≡ i = omega arith in
      rw previous at (later-than-before holidays (i + 1) (omega arith) asked)

-- the entries behind the first rise too
rest-rises : (whole : List ℕ) {x : ℕ} {xs : List ℕ} → whole ≡ x ∷ xs → IsStrictlyIncreasing whole → IsStrictlyIncreasing xs
rest-rises whole {x} {xs} e rising i h = go (rw e at rising)
  where
    go : IsStrictlyIncreasing (x ∷ xs) → slice_index xs i < slice_index xs (i + 1)
    go r = simp add-one (simp add-one at (r (i + 1) (omega arith)))

-- a date that is no later than the first entry is that entry or not listed
pub listed-first : (date : ℕ) (whole : List ℕ) {x : ℕ} {xs : List ℕ} → whole ≡ x ∷ xs → IsStrictlyIncreasing whole → date ≤ x → eqb x date ≡ listed date whole
unfolding listed
listed-first date whole {x} {xs} e rising h = rw e (go (eqb x date) refl)
  where
    later : (i : ℕ) → i < length xs → x < slice_index xs i
    later i l = AllPairs-from_increasing (x ∷ xs) (rw e at rising) 0 (suc i) 0 (omega arith) (omega arith)

    go : (b : Bool) → eqb x date ≡ b → b ≡ (b || listed date xs)
    go true e = refl
    go false e = nowhere date xs (λ i l. omega (arith, later i l))

-- The entries from a date on: they have each date that is not earlier just where the list has it.
pub listed-from : (date later : ℕ) (xs : List ℕ) → date ≤ later → listed later (entries_from date xs) ≡ listed later xs
listed-from date later [] h = refl
listed-from date later (x ∷ xs) h = go (ltb x date) refl (listed-from date later xs h)
  where
    n : ℕ
    n = prefix_len (λ entry. ltb entry date) xs

    go : (b : Bool) → ltb x date ≡ b → listed later (drop n xs) ≡ listed later xs →
        listed later (drop (cond b (1 + n) 0) (x ∷ xs)) ≡ listed later (x ∷ xs)
    go true e rest =
        let one : 1 + n ≡ suc n = omega arith in
        rw one (rest ∙ listed-behind later (x ∷ xs) refl (omega (arith, ltb-true x date e)))
    go false e rest = refl

-- where there are none, the list does not have the date
pub listed-ends : (date : ℕ) (xs : List ℕ) → length (entries_from date xs) < 1 → false ≡ listed date xs
listed-ends date xs h = listed-none date (entries_from date xs) (omega arith) ∙ listed-from date date xs (omega arith)

-- the first of them is the date, or the list does not have it
pub listed-begins : (date : ℕ) (xs : List ℕ) → IsStrictlyIncreasing xs → 0 < length (entries_from date xs) →
    eqb (get_or (entries_from date xs) 0 0) date ≡ listed date xs
listed-begins date [] rising = λ some. absurd (omega arith)
listed-begins date (x ∷ xs) rising = go (ltb x date) refl (listed-begins date xs (rest-rises (x ∷ xs) refl rising))
  where
    n : ℕ
    n = prefix_len (λ entry. ltb entry date) xs

    go : (b : Bool) → ltb x date ≡ b → (0 < length (drop n xs) → eqb (get_or (drop n xs) 0 0) date ≡ listed date xs) →
        0 < length (drop (cond b (1 + n) 0) (x ∷ xs)) → eqb (get_or (drop (cond b (1 + n) 0) (x ∷ xs)) 0 0) date ≡ listed date (x ∷ xs)
    go true e rest some =
        let one : 1 + n ≡ suc n = omega arith in
        rw one (rest (rw one at some) ∙ listed-behind date (x ∷ xs) refl (omega (arith, ltb-true x date e)))
    go false e rest some = listed-first date (x ∷ xs) refl rising (omega (arith, ltb-false x date e))
