-- The entries that are read are enough for question 9: the first 401 entries of a list are refused or accepted as the whole list is, and
-- an accepted list has no more. Assumes nothing.
use Rattle.std.specs.Prelude.{Err}
use mathlib.Core.Path.{◌≡◌, refl, ◌∙◌}
use mathlib.Core.List.{List}
use Prim.Native.Nat.{ℕ, zero, suc, ◌+◌, ◌-◌, ◌≤◌, ◌<◌, min}
use native.Mathlib.Nat.{min-zero, suc-min-suc, lt_of_not-le}
use native.Mathlib.Omega.{arith}
use lib.ListN.{length, take, length-take}
use lib.Seq.{get_or-take, take_all}
use borrow.Author.Tests.{le-ltb}
use Rattle.lists.proofs.Strides.{take_places}
use Rattle.big_endian.specs.BigEndian.{long_at, longs_from}
use Rattle.refusal.specs.declared.Refusal.TheVariants.{BadHoliday}
use Rattle.refusal.specs.Questions.{Pass, ask_each}
use Rattle.refusal.proofs.Questions.{ask-no, each-passed}
use Rattle.calendar_holidays.specs.Holidays.{holiday_question, holidays_question}
use Rattle.program_input.specs.Input.{head_length, list_length, request_in}
use Rattle.program_input.specs.Inside.{asked_entries}

-- "entry index 400 is itself at fault", and so is each behind it
at-fault : (holidays : List ℕ) (index : ℕ) → 400 ≤ index → holiday_question holidays index ≡ Err (BadHoliday index)
unfolding holiday_question
at-fault holidays index h = ask-no (BadHoliday index) (rw (le-ltb index 400 h))

module _ (holidays : List ℕ) where
  entry-alike : (index : ℕ) → index < 401 → holiday_question (take 401 holidays) index ≡ holiday_question holidays index
  unfolding holiday_question
  entry-alike index h =
      rw (get_or-take 401 holidays index 0 h, get_or-take 401 holidays (index - 1) 0 (omega arith))

  -- the n entries from `at` on, k of them before index 400
  from-alike : (k n at : ℕ) → at + k ≡ 400 → ask_each (holiday_question (take 401 holidays)) 1 (min (suc k) n) at ≡ ask_each (holiday_question holidays) 1 n at
  unfolding ask_each
  from-alike k zero at h = rw (min-zero (suc k))
  from-alike zero (suc n) at h =
      rw (suc-min-suc zero n, at-fault (take 401 holidays) at (omega arith), at-fault holidays at (omega arith))
  from-alike (suc k) (suc n) at h =
      rw (suc-min-suc (suc k) n, entry-alike at (omega arith), from-alike k n (at + 1) (omega arith))

  -- question 9 asks about no entry behind index 400
  pub asked-alike : holidays_question (take 401 holidays) ≡ holidays_question holidays
  unfolding holidays_question
  asked-alike = rw (length-take 401 holidays) (from-alike 400 (length holidays) 0 refl)

  -- an accepted list has at most 400 entries
  few : holidays_question holidays ≡ Pass → length holidays < 401
  unfolding holidays_question
  few h =
      let fault = at-fault holidays 400 (omega arith) in
      lt_of_not-le
      (λ l.
      let passed = each-passed (holiday_question holidays) 1 (length holidays) 0 400 h (omega arith) in
      let z : ◌≡◌ {A = ℕ} 0 1 = cc in
      omega arith)

-- the entries that the table holds are the list's first 401, and all of an accepted list
pub asked-list : (input : List ℕ) → longs_from input (asked_entries (list_length input)) head_length ≡ take 401 (request_in input).holidays
asked-list input = take_places (long_at input) 4 401 (list_length input) head_length

pub whole-list : (input : List ℕ) → holidays_question (request_in input).holidays ≡ Pass → longs_from input (asked_entries (list_length input)) head_length ≡ (request_in input).holidays
whole-list input h =
    asked-list input ∙ take_all 401 _ (omega (arith, few (request_in input).holidays h))
