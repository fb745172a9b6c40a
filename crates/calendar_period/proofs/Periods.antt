-- The values of a period's days, and what questions 7 and 8 say of a period. Assumes nothing.
use mathlib.Core.Path.{◌≡◌, refl, ◌∙◌, ap}
use mathlib.Core.Bool.{true}
use Prim.Native.Nat.{ℕ, zero, suc, ◌+◌, ◌-◌, ◌*◌, ◌≤◌}
use native.Mathlib.Omega.{arith}
use lib.Dec.{leb}
use borrow.Author.Tests.{le-leb, leb-true}
use Rattle.refusal.specs.declared.Refusal.TheVariants.{BadDate, BadPeriod}
use Rattle.refusal.specs.Questions.{Pass}
use Rattle.refusal.specs.Questions.{◌then◌}
use Rattle.refusal.proofs.Questions.{ask-yes, then-pass, ask-passed, then-first, then_next, both}
use Rattle.calendar_dates.specs.declared.Date.{Date}
use Rattle.calendar_dates.specs.Dates.{date_of, is_date, day_number, next_day, AllDates}
use Rattle.calendar_dates.proofs.Later.{reached}
use Rattle.calendar_days.specs.declared.Clock.{Clock}
use Rattle.calendar_days.specs.declared.Clock.TheVariants.{Unchanged, Forward, Back}
use Rattle.calendar_days.specs.Days.{clock, value_count_under, value_count}
use Rattle.std.specs.List.{sum_by}
use Rattle.std.proofs.lemmas.List.Sums.{sum_by-cons}
use Rattle.calendar_period.specs.Period.{dates_from, date_question, days_of, period_question, period_check, value_count_of_days}

-- The values of a period's days: at most 100 a day.
pub clock-small : (c : Clock) → value_count_under c ≤ 100
clock-small Unchanged = omega arith
clock-small Forward = omega arith
clock-small Back = omega arith

pub values-small : (n : ℕ) (d : Date) → value_count_of_days n d ≤ 100 * n
unfolding value_count_of_days
values-small zero d = omega arith
values-small (suc n) d = omega (arith, clock-small (clock d), values-small n (next_day d))

-- What questions 7 and 8 ask of a period, as facts.
pub record Period (first last : ℕ) : Type 0 where
  pub dates-first : is_date (date_of first) ≡ true
  pub dates-last : is_date (date_of last) ≡ true
  pub ordered : day_number (date_of first) ≤ day_number (date_of last)
  pub short : days_of (date_of first) (date_of last) ≤ 1_461

module _ (first last : ℕ) where
  pub period-passed : period_check first last ≡ Pass → Period first last
  unfolding date_question period_question
  period-passed h =
      let a = date_of first in
      let b = date_of last in
      let rest = then_next (date_question first 0) (date_question last 1 then period_question a b) h in
      let tests =
      both (leb (day_number a) (day_number b)) (leb (days_of a b) 1_461)
      (ask-passed _ BadPeriod (then_next (date_question last 1) (period_question a b) rest)) in
      record {
        dates-first = ask-passed _ (BadDate 0) (then-first (date_question first 0) (date_question last 1 then period_question a b) h);
        dates-last = ask-passed _ (BadDate 1) (then-first (date_question last 1) (period_question a b) rest);
        ordered = leb-true (day_number a) (day_number b) tests.0;
        short = leb-true (days_of a b) 1_461 tests.1;
      }

  pub period-passes : Period first last → period_check first last ≡ Pass
  unfolding date_question period_question
  period-passes p =
      then-pass _ (ask-yes (BadDate 0) p.dates-first) ∙ then-pass _ (ask-yes (BadDate 1) p.dates-last)
      ∙ ask-yes BadPeriod (rw (le-leb _ _ p.ordered, le-leb _ _ p.short))

-- the days from one date to another are dates
pub all-between : (first last : Date) → is_date first ≡ true → is_date last ≡ true → day_number first ≤ day_number last → AllDates (days_of first last) first
unfolding days_of
all-between first last p q h =
    let n = day_number last - day_number first in
    let all : suc n ≡ day_number last + 1 - day_number first = omega arith in
    rw (← all) (reached n first last p q (omega arith)).0

-- the values of the days one after the other
pub values-from : (n : ℕ) (d : Date) → sum_by value_count (dates_from n d) ≡ value_count_of_days n d
unfolding value_count_of_days
values-from zero d = refl
values-from (suc n) d = rw sum_by-cons (ap (λ (rest : ℕ). value_count d + rest) (values-from n (next_day d)))
