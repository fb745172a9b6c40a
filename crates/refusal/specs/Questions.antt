-- Document 01, "The questions, first "no" counts": how questions are asked one after the other, and the number and place
-- that a refusal is reported with.
use Rattle.std.specs.Prelude.{Bool, true, false, List, ◌∷◌, ◌++◌, decimal, ℕ, zero, suc, ◌+◌, leb, length, drop, Result, Ok, Err}
use Rattle.refusal.specs.declared.Refusal.{Refusal}
use Rattle.refusal.specs.declared.Refusal.TheVariants.{NoMark, WrongVersion, WrongLength, BadCode, BadValue, NoGroup, BadDate}
use Rattle.refusal.specs.declared.Refusal.TheVariants.{BadPeriod, BadHoliday, BadUse, BadCarry, ShortOutput, BadInput}
use Rattle.refusal.specs.declared.Refusal.TheVariants.{BadYear, BadChoice, ShortList, WrongReadings, BadFirstDate, ShortPage}
use Rattle.refusal.specs.declared.CheckReport.{CheckReport}

infixr 5 ◌then◌
-- every question asked passed, or the first one that did not
abbrev pub Verdict : Type 0
Verdict = Result Unit Refusal

abbrev pub Pass : Verdict
Pass = Ok tt

-- the questions' numbers: 1 to 13 of document 01, and those of document 02, "New questions, here and later, count as document 01's"
abbrev pub refusal_number : Refusal → ℕ
refusal_number NoMark = 1
refusal_number WrongVersion = 2
refusal_number WrongLength = 3
refusal_number (BadCode at) = 4
refusal_number (BadValue at) = 5
refusal_number (NoGroup which) = 6
refusal_number (BadDate which) = 7
refusal_number BadPeriod = 8
refusal_number (BadHoliday index) = 9
refusal_number BadUse = 10
refusal_number BadCarry = 11
refusal_number (ShortOutput needed) = 12
refusal_number BadInput = 13
refusal_number BadYear = 14
refusal_number BadChoice = 15
refusal_number (ShortList needed) = 16
refusal_number WrongReadings = 17
refusal_number (BadFirstDate index) = 18
refusal_number (ShortPage needed) = 19

-- "Place is 0 where none is named."
abbrev pub refusal_place : Refusal → ℕ
refusal_place NoMark = 0
refusal_place WrongVersion = 0
refusal_place WrongLength = 0
refusal_place (BadCode at) = at
refusal_place (BadValue at) = at
refusal_place (NoGroup which) = which
refusal_place (BadDate which) = which
refusal_place BadPeriod = 0
refusal_place (BadHoliday index) = index
refusal_place BadUse = 0
refusal_place BadCarry = 0
refusal_place (ShortOutput needed) = needed
refusal_place BadInput = 0
refusal_place BadYear = 0
refusal_place BadChoice = 0
refusal_place (ShortList needed) = needed
refusal_place WrongReadings = 0
refusal_place (BadFirstDate index) = index
refusal_place (ShortPage needed) = needed

-- what a refusal's `Display` prints: the number and the place in decimal, a space (code 32) between them
abbrev pub refusal_display : Refusal → List ℕ
refusal_display r = decimal (refusal_number r) ++ (32 ∷ decimal (refusal_place r))

-- "number and place, both 0 when all pass"
abbrev pub number : Verdict → ℕ
number (Ok _) = 0
number (Err r) = refusal_number r

abbrev pub place : Verdict → ℕ
place (Ok _) = 0
place (Err r) = refusal_place r

-- the two numbers together
abbrev pub reported : Verdict → CheckReport
reported v = record { number = number v; place = place v }

-- one question: where the answer is "no" the call is refused by r
abbrev pub ask : Bool → Refusal → Verdict
ask true r = Pass
ask false r = Err r

-- "first "no" counts": the first verdict where it is a refusal, else the next
abbrev pub ◌then◌ : Verdict → Verdict → Verdict
Ok _ then next = next
Err r then next = Err r

-- the same question at `at`, `at + step`, `at + step + step`, .., n times
unfoldable pub ask_each : (ℕ → Verdict) → ℕ → ℕ → ℕ → Verdict
ask_each question step zero at = Pass
ask_each question step (suc n) at = question at then ask_each question step n (at + step)

-- 12. "Is the lent output long enough?": "place = entries needed (for writing, bytes)"
abbrev pub room_question : ℕ → ℕ → Verdict
room_question needed room = ask (leb needed room) (ShortOutput needed)

-- a call's answer: what it found where every question passed, else the refusal
abbrev pub answered : {A : Type 0} → Verdict → A → Result A Refusal
answered (Ok _) found = Ok found
answered (Err r) found = Err r

-- a where every question passed, else b
abbrev pub on_pass : {A : Type 0} → Verdict → A → A → A
on_pass (Ok _) a b = a
on_pass (Err r) a b = b

-- lent memory after a call: "An accepted call fills the entries it needs from the start of the lent output and keeps those
-- beyond"; on a refusal "lent memory keeps its content"
abbrev pub lent_after : {A : Type 0} → Verdict → List A → List A → List A
lent_after verdict new old = on_pass verdict (new ++ drop (length new) old) old
