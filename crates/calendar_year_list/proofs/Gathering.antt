-- Dates gone through in the calendar's order, each put behind the others unless it is the last of them. Assumes nothing.
use mathlib.Core.Path.{◌≡◌, refl, sym, ◌∙◌, ap}
use mathlib.Core.Bool.{Bool, true, false, cond}
use mathlib.Core.List.{List, [], ◌∷◌, ◌++◌}
use Prim.Native.Nat.{ℕ, suc, ◌+◌, ◌-◌, ◌≤◌, ◌<◌}
use native.Mathlib.Omega.{arith}
use native.Mathlib.Numerals.{add-one}
use lib.ListN.{length, length-append, get_or, drop, drop_of_length-le}
use lib.Seq.{drop-cons}
use Rattle.std.specs.Prelude.{Option, None, Some, slice_get}
use Rattle.std.specs.Option.{option_eq}
use Rattle.std.proofs.lemmas.List.{append_assoc}
use lib.Dec.{ltb, eqb}
use borrow.Author.Tests.{eqb-true, eqb-false, ltb-true, ltb-false}
use Rattle.calendar_public_holidays.specs.YearHolidays.{inserted, in_order}
use Rattle.calendar_year_list.specs.Inside.{wanted, NotFalling}

-- whether a date is the last one of a list
abbrev pub is_last : ℕ → List ℕ → Bool
is_last date dates = option_eq eqb (slice_get dates (length dates - 1)) (Some date)

-- the dates with some more behind them
abbrev pub appended : List ℕ → List ℕ → List ℕ
appended dates [] = dates
appended dates (date ∷ more) = appended (cond (is_last date dates) dates (dates ++ date ∷ [])) more

last-behind : (d date : ℕ) (dates : List ℕ) → is_last d (dates ++ date ∷ []) ≡ eqb date d
last-behind d date [] = refl
last-behind d date (x ∷ dates) =
    let e : length (x ∷ (dates ++ date ∷ [])) - 1 ≡ suc (length (dates ++ date ∷ []) - 1) =
    omega (arith, length-append dates (date ∷ [])) in
    rw e (last-behind d date dates)

-- a date put in front of dates that begin with one that is not earlier
in-front : (date next : ℕ) (dates : List ℕ) → date ≤ next →
    inserted date (next ∷ dates) ≡ cond (eqb date next) (next ∷ dates) (date ∷ next ∷ dates)
unfolding inserted
in-front date next dates h = go (ltb date next) (eqb date next) refl refl
  where
    go : (a b : Bool) → ltb date next ≡ a → eqb date next ≡ b →
        cond a (date ∷ next ∷ dates) (cond b (next ∷ dates) (next ∷ inserted date dates)) ≡ cond b (next ∷ dates) (date ∷ next ∷ dates)
    go true true l e = absurd (omega (arith, ltb-true date next l, eqb-true date next e))
    go true false l e = refl
    go false true l e = refl
    go false false l e = absurd (omega (arith, h, ltb-false date next l, eqb-false date next e))

-- put in order, the dates begin with the first of them
begins : (date : ℕ) (dates : List ℕ) → NotFalling (date ∷ dates) → (rest : List ℕ) × (in_order (date ∷ dates) ≡ date ∷ rest)
unfolding in_order inserted
begins date [] n = ([], refl)
begins date (next ∷ dates) n =
    let later = begins next dates n.1 in
    rw (later.1, in-front date next later.0 n.0.0) (go (eqb date next) later.0 refl)
  where
    go : (b : Bool) (others : List ℕ) → eqb date next ≡ b →
        (rest : List ℕ) × (cond b (next ∷ others) (date ∷ next ∷ others) ≡ date ∷ rest)
    go true others e = (others, ap (λ d. d ∷ others) (sym (eqb-true date next e)))
    go false others e = (next ∷ others, refl)

one-more : (date next : ℕ) (dates : List ℕ) → NotFalling (date ∷ next ∷ dates) →
    in_order (date ∷ next ∷ dates) ≡ cond (eqb date next) (in_order (next ∷ dates)) (date ∷ in_order (next ∷ dates))
unfolding in_order
one-more date next dates n = let later = begins next dates n.1 in rw later.1 (in-front date next later.0 n.0.0)

-- so they come to the dates in order, behind some others
behind : (dates : List ℕ) (date : ℕ) (more : List ℕ) → NotFalling (date ∷ more) →
    appended (dates ++ date ∷ []) more ≡ dates ++ in_order (date ∷ more)
unfolding in_order inserted
behind dates date [] n = refl
behind dates date (next ∷ more) n =
    rw (last-behind next date dates, one-more date next more n)
    (go (eqb date next) refl (behind dates date more (n.0.1, n.1.1)) (behind (dates ++ date ∷ []) next more n.1))
  where
    go : (b : Bool) → eqb date next ≡ b → appended (dates ++ date ∷ []) more ≡ dates ++ in_order (date ∷ more) →
        appended ((dates ++ date ∷ []) ++ next ∷ []) more ≡ (dates ++ date ∷ []) ++ in_order (next ∷ more) →
        appended (cond b (dates ++ date ∷ []) ((dates ++ date ∷ []) ++ next ∷ [])) more
        ≡ dates ++ cond b (in_order (next ∷ more)) (date ∷ in_order (next ∷ more))
    go true e same other = rw (← eqb-true date next e) same
    go false e same other = other ∙ append_assoc dates (date ∷ []) (in_order (next ∷ more))

pub appended_in_order : (dates : List ℕ) → NotFalling dates → appended [] dates ≡ in_order dates
unfolding in_order
appended_in_order [] n = refl
appended_in_order (date ∷ dates) n = behind [] date dates n

-- One day gone through.
module _ (days : List (Option ℕ)) (i : ℕ) (default : Option ℕ) (h : i < length days) where
  turn : wanted (drop i days) ≡ wanted (get_or days i default ∷ drop (i + 1) days)
  turn = rw (add-one, drop-cons days i default h) refl

  pub not_wanted : get_or days i default ≡ None → wanted (drop i days) ≡ wanted (drop (i + 1) days)
  not_wanted e = turn ∙ rw e refl

  pub one_wanted : (date : ℕ) → get_or days i default ≡ Some date → wanted (drop i days) ≡ date ∷ wanted (drop (i + 1) days)
  one_wanted date e = turn ∙ rw e refl

pub none_left : (days : List (Option ℕ)) (i : ℕ) → length days ≤ i → wanted (drop i days) ≡ []
none_left days i h = rw (drop_of_length-le days {i = i} h) refl

-- a date put behind others is the last of them
pub last_put : (date : ℕ) (dates : List ℕ) → slice_get (dates ++ date ∷ []) (length (dates ++ date ∷ []) - 1) ≡ Some date
last_put date [] = refl
last_put date (x ∷ dates) =
    let e : length (x ∷ (dates ++ date ∷ [])) - 1 ≡ suc (length (dates ++ date ∷ []) - 1) =
    omega (arith, length-append dates (date ∷ [])) in
    rw e (last_put date dates)
