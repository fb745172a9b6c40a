-- The laws by which the checks are proved: what `ask`, `_then_` and `ask_each` come to by what a check found.
-- Assumes nothing.
use mathlib.Core.Path.{◌≡◌, refl, sym, ◌∙◌}
use mathlib.Core.Bool.{Bool, true, false, ◌&&◌}
use Prim.Native.Nat.{ℕ, zero, suc, ◌+◌, ◌-◌, ◌*◌, ◌≤◌, ◌<◌}
use native.Mathlib.Omega.{arith}
use native.Mathlib.Nat.{suc-mul}
use lib.Dec.{eqb}
use borrow.Author.Tests.{leb-true, le-leb}
use Rattle.refusal.specs.declared.Refusal.{Refusal}
use Rattle.refusal.specs.declared.Refusal.TheVariants.{NoMark, WrongVersion, WrongLength, BadCode, BadValue, NoGroup, BadDate}
use Rattle.refusal.specs.declared.Refusal.TheVariants.{BadPeriod, BadHoliday, BadUse, BadCarry, ShortOutput, BadInput}
use Rattle.refusal.specs.declared.Refusal.TheVariants.{BadYear, BadChoice, ShortList, WrongReadings, BadFirstDate, ShortPage}
use Rattle.std.specs.Prelude.{Ok, Err}
use Rattle.refusal.specs.Questions.{Verdict, Pass, refusal_number, ask, ◌then◌, ask_each, room_question}

-- One question.
pub ask-yes : {b : Bool} (r : Refusal) → b ≡ true → ask b r ≡ Pass
ask-yes r h = rw h

pub ask-no : {b : Bool} (r : Refusal) → b ≡ false → ask b r ≡ Err r
ask-no r h = rw h

-- One question after the other.
pub then-pass : {v : Verdict} (next : Verdict) → v ≡ Pass → (v then next) ≡ next
then-pass next h = rw h

-- the refusal r of a question is the whole check's
pub refused-first : {question : Verdict} {r : Refusal} (next : Verdict) → question ≡ Err r → (question then next) ≡ Err r
refused-first next h = rw h

-- a check answers the refusal r of a question as it is
pub stops : {v question : Verdict} {r : Refusal} (next : Verdict) → v ≡ question → v ≡ Err r → Err r ≡ (question then next)
stops next e t = sym (refused-first next (sym e ∙ t))

-- so is the refusal r of the first two
pub refused-second : (a b next : Verdict) {r : Refusal} → (a then b) ≡ Err r → (a then b then next) ≡ Err r
refused-second (Ok _) b next h = refused-first next h
refused-second (Err r) b next h = h

-- after the first two passed the next counts
pub passed-second : (a b next : Verdict) → (a then b) ≡ Pass → (a then b then next) ≡ next
passed-second (Ok _) b next h = then-pass next h
passed-second (Err r) b next h = cc

-- Question 12.
pub room-enough : (needed room : ℕ) → needed ≤ room → room_question needed room ≡ Pass
room-enough needed room h = ask-yes (ShortOutput needed) (le-leb needed room h)

-- A loop asks the n questions that are left, from `at` on, and answers `whole`: what is left to ask is all that counts.
pub record Asking (question : ℕ → Verdict) (step n at : ℕ) (whole : Verdict) : Type 0 where
  pub asked : ask_each question step n at ≡ whole

module _ {question : ℕ → Verdict} {step n at : ℕ} {whole : Verdict} (loop : Asking question step n at whole) where
  turn : 0 < n → (question at then ask_each question step (n - 1) (at + step)) ≡ whole
  unfolding ask_each
  turn h =
      let e : n ≡ suc (n - 1) = omega arith in
      rw e at loop.asked

  -- the question did not pass at this place
  pub refused-here : {v : Verdict} {r : Refusal} → 0 < n → v ≡ question at → v ≡ Err r → Err r ≡ whole
  refused-here h e t = stops _ e t ∙ turn h

  -- the question passed at this place
  pub passed_here : {v : Verdict} → 0 < n → v ≡ question at → v ≡ Pass → Asking question step (n - 1) (at + step) whole
  passed_here h e p = record { asked = sym (then-pass _ (sym e ∙ p)) ∙ turn h }

  -- no place is left
  pub all-passed : n ≤ 0 → Pass ≡ whole
  unfolding ask_each
  all-passed h =
      let e : n ≡ 0 = omega arith in
      rw e at loop.asked

module _ (question : ℕ → Verdict) (step : ℕ) where
  -- the question passes at each of the n places
  pub each-pass : (n at : ℕ) → ((k : ℕ) → k < n → question (at + k * step) ≡ Pass) → ask_each question step n at ≡ Pass
  unfolding ask_each
  each-pass zero at h = refl
  each-pass (suc n) at h =
      let first : at + zero * step ≡ at = omega arith in
      let next : (k : ℕ) → at + suc k * step ≡ at + step + k * step = λ k. omega (arith, suc-mul k step) in
      then-pass (ask_each question step n (at + step)) (rw first at (h zero (omega arith)))
      ∙ each-pass n (at + step) (λ k l. rw (next k) at (h (suc k) (omega arith)))

-- The other way round: what a check that passed tells of its questions.
pub ask-passed : (b : Bool) (r : Refusal) → ask b r ≡ Pass → b ≡ true
ask-passed true r h = refl
ask-passed false r h = cc

pub then-first : (v next : Verdict) → (v then next) ≡ Pass → v ≡ Pass
then-first (Ok _) next h = refl
then-first (Err r) next h = h

pub then_next : (v next : Verdict) → (v then next) ≡ Pass → next ≡ Pass
then_next v next h = sym (then-pass next (then-first v next h)) ∙ h

pub room-passed : (needed room : ℕ) → room_question needed room ≡ Pass → needed ≤ room
room-passed needed room h = leb-true needed room (ask-passed _ (ShortOutput needed) h)

-- the question passed at each of the n places
pub each-passed : (question : ℕ → Verdict) (step n at k : ℕ) → ask_each question step n at ≡ Pass → k < n → question (at + k * step) ≡ Pass
unfolding ask_each
each-passed question step zero at k h l = absurd (omega arith)
each-passed question step (suc n) at zero h l =
    let e : at ≡ at + zero * step = omega arith in
    rw (← e) (then-first (question at) (ask_each question step n (at + step)) h)
each-passed question step (suc n) at (suc k) h l =
    let e : at + step + k * step ≡ at + suc k * step = omega (arith, suc-mul k step) in
    rw (← e)
    (each-passed question step n (at + step) k (then_next (question at) (ask_each question step n (at + step)) h)
    (omega arith))

-- both parts of a test hold
pub both : (a b : Bool) → (a && b) ≡ true → (a ≡ true) × (b ≡ true)
both true b h = (refl, h)
both false b h = let z : ◌≡◌ {A = ℕ} 0 1 = cc in absurd (omega arith)

-- a refusal's number is never 0
pub number-above-0 : (r : Refusal) → eqb (refusal_number r) 0 ≡ false
number-above-0 NoMark = refl
number-above-0 WrongVersion = refl
number-above-0 WrongLength = refl
number-above-0 (BadCode at) = refl
number-above-0 (BadValue at) = refl
number-above-0 (NoGroup which) = refl
number-above-0 (BadDate which) = refl
number-above-0 BadPeriod = refl
number-above-0 (BadHoliday index) = refl
number-above-0 BadUse = refl
number-above-0 BadCarry = refl
number-above-0 (ShortOutput needed) = refl
number-above-0 BadInput = refl
number-above-0 BadYear = refl
number-above-0 BadChoice = refl
number-above-0 (ShortList needed) = refl
number-above-0 WrongReadings = refl
number-above-0 (BadFirstDate index) = refl
number-above-0 (ShortPage needed) = refl

-- The same of a loop that counts up: k of the n questions from `at` on were asked, and passed.
pub record Asked (question : ℕ → Verdict) (step n at k : ℕ) : Type 0 where
  pub rest : ask_each question step (n - k) (at + k * step) ≡ ask_each question step n at

module _ {question : ℕ → Verdict} {step n at k : ℕ} (loop : Asked question step n at k) where
  turn_at : k < n → (question (at + k * step) then ask_each question step (n - (k + 1)) (at + (k + 1) * step)) ≡ ask_each question step n at
  unfolding ask_each
  turn_at h =
      let e : n - k ≡ suc (n - (k + 1)) = omega arith in
      let f : at + k * step + step ≡ at + (k + 1) * step = omega arith in
      rw (← f) (rw e at loop.rest)

  -- the k-th question did not pass
  pub asked-refuses : {v answer : Verdict} {r : Refusal} → k < n → v ≡ question (at + k * step) → v ≡ Err r → answer ≡ Err r →
      answer ≡ ask_each question step n at
  asked-refuses h e t same = same ∙ stops _ e t ∙ turn_at h

  -- it passed
  pub asked_more : {v : Verdict} → k < n → v ≡ question (at + k * step) → v ≡ Pass → Asked question step n at (k + 1)
  asked_more h e p = record { rest = sym (then-pass _ (sym e ∙ p)) ∙ turn_at h }

  -- none is left
  pub asked_all : n ≤ k → Pass ≡ ask_each question step n at
  unfolding ask_each
  asked_all h =
      let e : n - k ≡ 0 = omega arith in
      rw e at loop.rest
