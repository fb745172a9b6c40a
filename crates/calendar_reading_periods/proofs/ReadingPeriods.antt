-- What questions 17 and 18 tell of first dates, and where the periods end: real dates, in order, with as many days as the dates leave.
-- Assumes nothing.
use mathlib.Core.Path.{◌≡◌, refl, sym, ◌∙◌, ap}
use mathlib.Core.Bool.{Bool, true, false, cond, ◌&&◌}
use mathlib.Core.List.{List, [], ◌∷◌}
use Prim.Native.Nat.{ℕ, zero, suc, ◌+◌, ◌-◌, ◌*◌, ◌≤◌, ◌<◌}
use native.Mathlib.Omega.{arith}
use lib.Dec.{leb, ltb, eqb}
use lib.ListN.{length, get_or, drop, drop_of_length-le}
use borrow.Author.Tests.{leb-true, ltb-true, ltb-false, eqb-true, eq-eqb, ne_eqb}
use Rattle.lists.specs.Lists.{Before}
use Rattle.lists.proofs.Parts.{drop-next}
use Rattle.refusal.specs.declared.Refusal.TheVariants.{WrongReadings, BadFirstDate}
use Rattle.refusal.specs.Questions.{Pass}
use Rattle.refusal.proofs.Questions.{ask-passed, each-passed, both}
use Rattle.calendar_dates.specs.declared.Date.{Date}
use Rattle.calendar_dates.specs.Dates.{date_of, number_of, is_date, day_number, next_day, days_later, AllDates}
use Rattle.calendar_dates.proofs.Later.{later-number, later-next}
use Rattle.calendar_period.specs.Period.{PeriodDays, days_of, period_days, period_check}
use Rattle.calendar_period.proofs.Periods.{Period, period-passed}
use Rattle.calendar_laws.specs.Dates.{DatesCounted}
use Rattle.calendar_laws.proofs.Dates.{dates-counted}
use Rattle.calendar_laws.proofs.Order.{same-order}
use Rattle.calendar_laws.proofs.Periods.{period-days}
use Rattle.calendar_reading_periods.specs.ReadingPeriods.{readings_question, first_date_question, first_dates_question, end_of}
use Rattle.calendar_reading_periods.specs.Inside.{FirstDates, FewDays, PeriodsLeft, number_after}

-- Question 17.
pub record Counted (dates values : ℕ) : Type 0 where
  pub some : 1 ≤ dates
  pub few : dates ≤ 48
  pub same : values ≡ dates

pub counted : (dates values : ℕ) → readings_question dates values ≡ Pass → Counted dates values
unfolding readings_question
counted dates values h =
    let parts = both (leb 1 dates && leb dates 48) (eqb values dates) (ask-passed _ WrongReadings h) in
    let limits = both (leb 1 dates) (leb dates 48) parts.0 in
    record { some = leb-true 1 dates limits.0; few = leb-true dates 48 limits.1; same = eqb-true values dates parts.1 }

-- Question 18.
module _ (first last : ℕ) (starts : List ℕ) where
  abbrev start : ℕ → ℕ
  start i = get_or starts i 0

  -- of one first date
  record Asked (index : ℕ) : Type 0 where
    real : is_date (date_of (start index)) ≡ true
    early : start index ≤ last
    begun : index ≡ 0 → start 0 ≡ first
    rising : 0 < index → start (index - 1) < start index

  asked : (index : ℕ) → first_date_question first last starts index ≡ Pass → Asked index
  unfolding first_date_question
  asked index h =
      let date = is_date (date_of (start index)) in
      let sequence = cond (eqb index 0) (eqb (start 0) first) (ltb (start (index - 1)) (start index)) in
      let inside = leb first (start index) && leb (start index) last in
      let parts = both (date && sequence) inside (ask-passed (date && sequence && inside) (BadFirstDate index) h) in
      let known = both date sequence parts.0 in
      record {
        real = known.0;
        early = leb-true (start index) last (both (leb first (start index)) (leb (start index) last) parts.1).1;
        begun = λ e. eqb-true (start 0) first (rw (eq-eqb index 0 e) at known.1);
        rising = λ l. ltb-true (start (index - 1)) (start index) (rw (ne_eqb index 0 (λ e. omega arith)) at known.1);
      }

  module _ (passed : first_dates_question first last starts ≡ Pass) where
    each : (index : ℕ) → index < length starts → Asked index
    unfolding first_dates_question
    each index h =
        let at : 0 + index * 1 ≡ index = omega arith in
        asked index (rw at at (each-passed (first_date_question first last starts) 1 (length starts) 0 index passed h))

    -- the first dates from an index on, of which n are left
    from : (n index : ℕ) → index + n ≡ length starts → FirstDates last (drop index starts)
    from zero index h = rw (drop_of_length-le starts {i = index} (omega arith)) tt
    from (suc n) index h =
        let rest = from n (index + 1) (omega arith) in
        rw (drop-next starts index (omega arith))
        ((each index (omega arith)).real, (each index (omega arith)).early, next n refl, rest)
      where
        next : (m : ℕ) → m ≡ n → Before (start index) (drop (index + 1) starts)
        next zero e = rw (drop_of_length-le starts {i = index + 1} (omega arith)) tt
        next (suc m) e =
            let before : index + 1 - 1 ≡ index = omega arith in
            rw (drop-next starts (index + 1) (omega arith)) (rw before at ((each (index + 1) (omega arith)).rising (omega arith)))

    pub all-dates : FirstDates last starts
    all-dates = from (length starts) 0 (omega arith)

    pub begins : 0 < length starts → get_or starts 0 0 ≡ first
    begins h = (each 0 h).begun refl

-- Dates have the order of their numbers.
module _ (a b : ℕ) (p : is_date (date_of a) ≡ true) (q : is_date (date_of b) ≡ true) where
  pub day-before : a < b → day_number (date_of a) < day_number (date_of b)
  day-before h = (same-order (date_of a) (date_of b) p q).by_day (omega arith)

  pub day-not-after : a ≤ b → day_number (date_of a) ≤ day_number (date_of b)
  day-not-after h = by (ltb (day_number (date_of b)) (day_number (date_of a))) refl
    where
      by : (t : Bool) → ltb (day_number (date_of b)) (day_number (date_of a)) ≡ t → day_number (date_of a) ≤ day_number (date_of b)
      by true e =
          let later = (same-order (date_of b) (date_of a) q p).by_number (ltb-true _ _ e) in
          absurd (omega arith)
      by false e = ltb-false _ _ e

-- a period's last date
pub record Ends (last start : ℕ) (rest : List ℕ) : Type 0 where
  pub real : is_date (date_of (end_of last start rest)) ≡ true
  pub ordered : day_number (date_of start) ≤ day_number (date_of (end_of last start rest))
  pub before : day_number (date_of (end_of last start rest)) + 1 ≡ number_after last rest
  pub inside : number_after last rest ≤ day_number (date_of last) + 1

-- the last of n + 1 days from a date on, which the day after them is known to follow
module _ (start next : ℕ) (p : is_date (date_of start) ≡ true) (q : is_date (date_of next) ≡ true) (h : day_number (date_of start) < day_number (date_of next)) where
  abbrev more : ℕ
  more = day_number (date_of next) - day_number (date_of start) - 1

  last-day : is_date (days_later more (date_of start)) ≡ true
  unfolding days_of
  last-day = (period-days (date_of start) (date_of next) p q (omega arith)).dates more (omega arith)

  last-number : day_number (days_later more (date_of start)) ≡ day_number (date_of start) + more
  unfolding days_of
  last-number = later-number more (date_of start) (λ k l. (period-days (date_of start) (date_of next) p q (omega arith)).dates k (omega arith))

  last-date : date_of (number_of (days_later more (date_of start))) ≡ days_later more (date_of start)
  unfolding DatesCounted
  last-date = (dates-counted.0 (days_later more (date_of start)) last-day).numbered

  day-after : next_day (date_of (number_of (days_later more (date_of start)))) ≡ date_of next
  unfolding days_of days_later
  day-after =
      let all : suc more ≡ day_number (date_of next) + 1 - day_number (date_of start) - 1 = omega arith in
      ap next_day last-date ∙ sym (later-next more (date_of start)) ∙ ap (λ (k : ℕ). days_later k (date_of start)) all
      ∙ (period-days (date_of start) (date_of next) p q (omega arith)).ends

pub ends : (last start : ℕ) (rest : List ℕ) → is_date (date_of last) ≡ true → FirstDates last (start ∷ rest) → Ends last start rest
unfolding end_of
ends last start [] q f =
    record { real = q; ordered = day-not-after start last f.0 q f.1; before = refl; inside = omega arith }
ends last start (next ∷ rest) q f =
    let p = f.0 in
    let r = f.3.0 in
    let later = day-before start next p r f.2 in
    let date = last-date start next p r later in
    let number = last-number start next p r later in
    record {
      real = rw date (last-day start next p r later);
      ordered = rw date (omega arith);
      before = rw date (omega arith);
      inside = omega (arith, day-not-after next last r q f.3.1);
    }

-- the next period begins the day after
pub next-begins : (last start next : ℕ) (rest : List ℕ) → FirstDates last (start ∷ next ∷ rest) → next_day (date_of (end_of last start (next ∷ rest))) ≡ date_of next
unfolding end_of
next-begins last start next rest f = day-after start next f.0 f.3.0 (day-before start next f.0 f.3.0 f.2)

-- the first dates of a span whose questions passed
pub all-left : (first last : ℕ) (starts : List ℕ) → period_check first last ≡ Pass → first_dates_question first last starts ≡ Pass → PeriodsLeft last starts
all-left first last starts span passed =
    record { real = period.dates-last; dates = all-dates first last starts passed; few = few starts (begins first last starts passed) }
  where
    period : Period first last
    period = period-passed first last span

    few : (starts : List ℕ) → (0 < length starts → get_or starts 0 0 ≡ first) → FewDays last starts
    few [] h = tt
    few (start ∷ later) h = let e : start ≡ first = h (omega arith) in rw e period.short

-- What is left of periods.
module _ {last start : ℕ} {later : List ℕ} (left : PeriodsLeft last (start ∷ later)) where
  period-ends : Ends last start later
  period-ends = ends last start later left.real left.dates

  -- the next period has fewer days to the span's end
  pub left-next : PeriodsLeft last later
  unfolding days_of
  left-next = record { real = left.real; dates = left.dates.3; few = few later left.dates }
    where
      few : (later : List ℕ) → FirstDates last (start ∷ later) → FewDays last later
      few [] d = tt
      few (next ∷ rest) d = omega (arith, left.few, day-before start next d.0 d.3.0 d.2)

  pub start-real : is_date (date_of start) ≡ true
  start-real = left.dates.0

  -- up to the day after are the period's days
  module _ {after from : ℕ} (a : after ≡ number_after last later) (f : from ≡ day_number (date_of start)) where
    pub begun-before : from < after
    begun-before = omega (arith, period-ends.ordered, period-ends.before)

    pub few-left : after - from ≤ 1_461
    unfolding days_of
    few-left = omega (arith, left.few, period-ends.before, period-ends.inside)

    pub days-counted : after - from ≡ days_of (date_of start) (date_of (end_of last start later))
    unfolding days_of
    days-counted = omega (arith, period-ends.before)

    pub all-real : AllDates (after - from) (date_of start)
    all-real = rw days-counted (period-days (date_of start) (date_of (end_of last start later)) start-real period-ends.real period-ends.ordered).dates

    pub period-is : {period : PeriodDays} → period.first ≡ date_of start → period.days ≡ after - from → period ≡ period_days (date_of start) (date_of (end_of last start later))
    period-is {period} first days = made (days ∙ days-counted) first
      where
        made : {d : Date} {n : ℕ} → period.days ≡ n → period.first ≡ d → period ≡ record { first = d; days = n }
        made e f = rw (← e, ← f) refl
