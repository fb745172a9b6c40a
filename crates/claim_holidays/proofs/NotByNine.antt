-- Questions other than 9 do not refuse by it: one by one, one after the other, and at places one stride apart. Assumes nothing.
use Rattle.std.specs.Prelude.{Ok, Err}
use mathlib.Core.Path.{◌≡◌}
use mathlib.Core.Bool.{Bool, true, false}
use mathlib.Core.List.{List}
use Prim.Native.Nat.{ℕ, zero, suc, ◌+◌}
use native.Mathlib.Omega.{arith}
use Rattle.refusal.specs.declared.Refusal.{Refusal}
use Rattle.refusal.specs.declared.Refusal.TheVariants.{NoMark, WrongVersion, WrongLength, BadCode, BadValue, NoGroup, BadDate, BadPeriod, BadUse, BadCarry, ShortOutput, BadInput, WrongReadings, BadFirstDate, ShortPage}
use Rattle.refusal.specs.Questions.{Verdict}
use Rattle.refusal.specs.Questions.{Pass}
use Rattle.refusal.specs.Questions.{refusal_number, ask, ◌then◌, ask_each, room_question}
use Rattle.calendar_dates.specs.declared.Date.{Date}
use Rattle.calendar_dates.specs.Dates.{date_of}
use Rattle.calendar_period.specs.Period.{date_question, period_question, period_check}
use Rattle.file_layout.specs.declared.Layout.{Layout}
use Rattle.file_layout.specs.Header.{layout_of, mark_question, version_question, length_question, header_check}
use Rattle.file_values.specs.Values.{value_question, profile_values_question, values_question}
use Rattle.file_check.specs.Check.{code_question, codes_question, file_check}
use Rattle.file_group.specs.Group.{group_question, check}
use Rattle.call_request.specs.Request.{use_question, carry_question}
use Rattle.calendar_reading_periods.specs.ReadingPeriods.{readings_question, first_date_question, first_dates_question}
use Rattle.call_page.specs.Page.{bytes_needed, page_question}
use Rattle.program_input.specs.Input.{input_question}
use Rattle.claim_holidays.specs.ListGiven.{NotByNine}

pub passed : NotByNine Pass
passed h = absurd (omega (arith, h))

one : (b : Bool) (r : Refusal) → (refusal_number r ≡ 9 → ⊥) → NotByNine (ask b r)
one true r n = passed
one false r n = n

pub both : (v next : Verdict) → NotByNine v → NotByNine next → NotByNine (v then next)
both (Ok _) next a b = b
both (Err r) next a b = a

each : (question : ℕ → Verdict) (step n at : ℕ) → ((k : ℕ) → NotByNine (question k)) → NotByNine (ask_each question step n at)
unfolding ask_each
each question step zero at h = passed
each question step (suc n) at h = both (question at) (ask_each question step n (at + step)) (h at) (each question step n (at + step) h)

-- questions 1 to 6
mark : (file : List ℕ) → NotByNine (mark_question file)
unfolding mark_question
mark file = one _ NoMark (λ h. absurd (omega (arith, h)))

version : (file : List ℕ) → NotByNine (version_question file)
unfolding version_question
version file = one _ WrongVersion (λ h. absurd (omega (arith, h)))

length-asked : (layout : Layout) (file : List ℕ) → NotByNine (length_question layout file)
unfolding length_question
length-asked layout file = one _ WrongLength (λ h. absurd (omega (arith, h)))

header-questions : (file : List ℕ) → NotByNine (header_check file)
unfolding header_check
header-questions file =
    both (mark_question file) (version_question file then length_question (layout_of file) file) (mark file)
    (both (version_question file) (length_question (layout_of file) file) (version file) (length-asked (layout_of file) file))

code-questions : (layout : Layout) (file : List ℕ) → NotByNine (codes_question layout file)
unfolding code_question
code-questions layout file = each _ _ _ _ (λ k. one _ (BadCode k) (λ h. absurd (omega (arith, h))))

value-questions : (layout : Layout) (file : List ℕ) → NotByNine (values_question layout file)
unfolding value_question profile_values_question
value-questions layout file = each _ _ _ _ (λ k. each _ _ _ _ (λ j. one _ (BadValue j) (λ h. absurd (omega (arith, h)))))

group : (file : List ℕ) (wanted : ℕ) → NotByNine (group_question file wanted 0)
unfolding group_question
group file wanted = one _ (NoGroup 0) (λ h. absurd (omega (arith, h)))

file-checked : (file : List ℕ) → NotByNine (file_check file)
unfolding file_check
file-checked file =
    let layout = layout_of file in
    both (header_check file) (codes_question layout file then values_question layout file) (header-questions file)
    (both (codes_question layout file) (values_question layout file) (code-questions layout file) (value-questions layout file))

pub file-and-group : (file : List ℕ) (group : ℕ) → NotByNine (check file group)
file-and-group file wanted = both (file_check file) (group_question file wanted 0) (file-checked file) (group file wanted)

-- questions 7 and 8
pub date-question : (date place : ℕ) → NotByNine (date_question date place)
unfolding date_question
date-question date place = one _ (BadDate place) (λ h. absurd (omega (arith, h)))

between : (first last : Date) → NotByNine (period_question first last)
unfolding period_question
between first last = one _ BadPeriod (λ h. absurd (omega (arith, h)))

pub period : (first last : ℕ) → NotByNine (period_check first last)
period first last =
    both (date_question first 0) (date_question last 1 then period_question (date_of first) (date_of last)) (date-question first 0)
    (both (date_question last 1) (period_question (date_of first) (date_of last)) (date-question last 1) (between (date_of first) (date_of last)))

-- questions 10 to 12
pub yearly-use : (yearly : ℕ) → NotByNine (use_question yearly)
unfolding use_question
yearly-use yearly = one _ BadUse (λ h. absurd (omega (arith, h)))

carry-asked : (carry : ℕ) → NotByNine (carry_question carry)
unfolding carry_question
carry-asked carry = one _ BadCarry (λ h. absurd (omega (arith, h)))

pub use-and-carry : (yearly carry : ℕ) → NotByNine (use_question yearly then carry_question carry)
use-and-carry yearly carry = both (use_question yearly) (carry_question carry) (yearly-use yearly) (carry-asked carry)

pub output : (needed room : ℕ) → NotByNine (room_question needed room)
output needed room = one _ (ShortOutput needed) (λ h. absurd (omega (arith, h)))

-- questions 17 to 19
pub readings : (dates values : ℕ) → NotByNine (readings_question dates values)
unfolding readings_question
readings dates values = one _ WrongReadings (λ h. absurd (omega (arith, h)))

pub first-dates : (first last : ℕ) (starts : List ℕ) → NotByNine (first_dates_question first last starts)
unfolding first_date_question first_dates_question
first-dates first last starts = each _ _ _ _ (λ k. one _ (BadFirstDate k) (λ h. absurd (omega (arith, h))))

pub page-room : (days room : ℕ) → NotByNine (page_question days room)
unfolding page_question
page-room days room = one _ (ShortPage (bytes_needed days)) (λ h. absurd (omega (arith, h)))

-- question 13
pub whole-input : (input : List ℕ) → NotByNine (input_question input)
unfolding input_question
whole-input input = one _ BadInput (λ h. absurd (omega (arith, h)))
