-- A rising list of at most 400 dates passes question 9: a year's list is one, and so are those of several years one behind the other.
-- Assumes nothing.
use mathlib.Core.Path.{◌≡◌, refl}
use mathlib.Core.Bool.{or-true, true, ◌||◌}
use mathlib.Core.List.{List, [], ◌∷◌, ◌++◌}
use Prim.Native.Nat.{ℕ, zero, suc, ◌+◌, ◌-◌, ◌*◌, ◌≤◌, ◌<◌}
use native.Mathlib.Omega.{arith}
use lib.Dec.{ltb, eqb}
use lib.ListN.{length, get_or, length-append}
use borrow.Author.Tests.{lt-ltb}
use Rattle.lists.specs.Lists.{Each, Before, Rising}
use Rattle.lists.proofs.Members.{each_append}
use Rattle.refusal.specs.declared.Refusal.TheVariants.{BadHoliday}
use Rattle.refusal.specs.Questions.{Pass}
use Rattle.refusal.proofs.Questions.{ask-yes, each-pass}
use Rattle.calendar_dates.specs.Dates.{date_of, is_date}
use Rattle.calendar_holidays.specs.Holidays.{holiday_question, holidays_question}
use Rattle.calendar_movable_days.specs.Inside.{InSpan}
use Rattle.calendar_public_holidays.specs.YearHolidays.{chosen_days, year_holidays, lists_from}
use Rattle.calendar_public_holidays.proofs.InOrder.{order-rising}
use Rattle.calendar_public_holidays_laws.proofs.Length.{at-most-17, at-least-10}
use Rattle.calendar_public_holidays_laws.proofs.Entries.{DateOf, each-of-year}

-- a number that is a date of the span
abbrev IsDate : ℕ → Type 0
IsDate n = is_date (date_of n) ≡ true

-- an entry of a rising list is later than the one before
later : (dates : List ℕ) → Rising dates → (k : ℕ) → suc k < length dates → get_or dates k 0 < get_or dates (suc k) 0
later [] r k h = absurd (omega arith)
later (date ∷ []) r k h = absurd (omega arith)
later (date ∷ next ∷ dates) r zero h = r.0
later (date ∷ next ∷ dates) r (suc k) h = later (next ∷ dates) r.1 k (omega arith)

entry : (dates : List ℕ) → Each IsDate dates → (k : ℕ) → k < length dates → IsDate (get_or dates k 0)
entry [] e k h = absurd (omega arith)
entry (date ∷ dates) e zero h = e.0
entry (date ∷ dates) e (suc k) h = entry dates e.1 k (omega arith)

in_order : (dates : List ℕ) → Rising dates → (k : ℕ) → k < length dates → (eqb k 0 || ltb (get_or dates (k - 1) 0) (get_or dates k 0)) ≡ true
in_order dates r zero h = refl
in_order dates r (suc k) h =
    let one : suc k - 1 ≡ k = omega arith in
    rw (one, lt-ltb (get_or dates k 0) (get_or dates (suc k) 0) (later dates r k h)) (or-true (eqb (suc k) 0))

pub passes-9 : (dates : List ℕ) → length dates ≤ 400 → Each IsDate dates → Rising dates → holidays_question dates ≡ Pass
unfolding holiday_question holidays_question
passes-9 dates n e r =
    each-pass (holiday_question dates) 1 (length dates) 0
    (λ k h.
    let at : 0 + k * 1 ≡ k = omega arith in
    rw at (ask-yes (BadHoliday k) (rw (lt-ltb k 400 (omega arith), entry dates e k h, in_order dates r k h))))

real-dates : (year : ℕ) (dates : List ℕ) → Each (DateOf year) dates → Each IsDate dates
real-dates year [] e = tt
real-dates year (date ∷ dates) e = (e.0.is_real, real-dates year dates e.1)

pub list-passes : (year choice : ℕ) → InSpan year → holidays_question (year_holidays year choice) ≡ Pass
unfolding year_holidays
list-passes year choice s =
    passes-9 (year_holidays year choice) (omega (arith, at-most-17 year choice)) (real-dates year (year_holidays year choice) (each-of-year year choice s)) (order-rising (chosen_days year choice))

-- Lists of years one behind the other.
module _ (year : ℕ) where
  -- dates of a year in front of later ones
  join-rising : (dates later : List ℕ) → Each (DateOf year) dates → Rising dates → Before ((year + 1) * 10_000 - 1) later → Rising later → Rising (dates ++ later)
  join-rising [] later e r b l = l
  join-rising (date ∷ dates) later e r b l =
      (before date dates later e.0 r.0 b, join-rising dates later e.1 r.1 b l)
    where
      before : (d : ℕ) (rest next : List ℕ) → DateOf year d → Before d rest → Before ((year + 1) * 10_000 - 1) next → Before d (rest ++ next)
      before d [] [] o h n = tt
      before d [] (x ∷ next) o h n = omega (arith, o.of_year, n)
      before d (y ∷ rest) next o h n = h

-- the first date of a year's list, or of several, lies behind the year before
first-behind : (year choice : ℕ) → InSpan year → (rest : List ℕ) → Before (year * 10_000 - 1) (year_holidays year choice ++ rest)
first-behind year choice s rest = go (year_holidays year choice) (each-of-year year choice s) (at-least-10 year choice s)
  where
    go : (dates : List ℕ) → Each (DateOf year) dates → 10 ≤ length dates → Before (year * 10_000 - 1) (dates ++ rest)
    go [] e h = absurd (omega arith)
    go (date ∷ dates) e h = omega (arith, e.0.of_year, s.from)

lists-behind : (year n choice : ℕ) → 1996 ≤ year → year + n ≤ 2100 → Before (year * 10_000 - 1) (lists_from year n choice)
unfolding lists_from
lists-behind year zero choice a b = tt
lists-behind year (suc n) choice a b = first-behind year choice (record { from = a; to = omega arith }) (lists_from (year + 1) n choice)

lists-rising : (year n choice : ℕ) → 1996 ≤ year → year + n ≤ 2100 → Rising (lists_from year n choice)
unfolding lists_from year_holidays
lists-rising year zero choice a b = tt
lists-rising year (suc n) choice a b =
    join-rising year (year_holidays year choice) (lists_from (year + 1) n choice) (each-of-year year choice (record { from = a; to = omega arith })) (order-rising (chosen_days year choice))
    (lists-behind (year + 1) n choice (omega arith) (omega arith)) (lists-rising (year + 1) n choice (omega arith) (omega arith))

lists-dates : (year n choice : ℕ) → 1996 ≤ year → year + n ≤ 2100 → Each IsDate (lists_from year n choice)
unfolding lists_from
lists-dates year zero choice a b = tt
lists-dates year (suc n) choice a b =
    each_append IsDate (year_holidays year choice) (lists_from (year + 1) n choice)
    (real-dates year (year_holidays year choice) (each-of-year year choice (record { from = a; to = omega arith })))
    (lists-dates (year + 1) n choice (omega arith) (omega arith))

lists_length : (year n choice : ℕ) → length (lists_from year n choice) ≤ n * 17
unfolding lists_from
lists_length year zero choice = omega arith
lists_length year (suc n) choice =
    omega (arith, length-append (year_holidays year choice) (lists_from (year + 1) n choice), at-most-17 year choice, lists_length (year + 1) n choice)

-- those of up to 23 years have at most 391 dates
pub joined-pass : (year n choice : ℕ) → 1996 ≤ year → year + n ≤ 2100 → n ≤ 23 → holidays_question (lists_from year n choice) ≡ Pass
joined-pass year n choice a b h =
    passes-9 (lists_from year n choice) (omega (arith, lists_length year n choice)) (lists-dates year n choice a b) (lists-rising year n choice a b)
