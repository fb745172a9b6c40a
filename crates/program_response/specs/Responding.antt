-- Document 01, "The program": what the call that makes its text answers, and what it leaves on the lent page, accepted and refused.
use Rattle.refusal.specs.declared.Refusal.{Refusal}
use Rattle.refusal.specs.Questions.{answered}
use Rattle.std.specs.Prelude.{Result, Ok, Err}
use Rattle.std.specs.Prelude.{List, ℕ, length}
use Rattle.refusal.specs.Questions.{Verdict}
use Rattle.refusal.specs.Questions.{refusal_number, refusal_place, room_question, lent_after}
use Rattle.program_text.specs.Printed.{printed}
use Rattle.program_response.specs.declared.ResponseReport.{ResponseReport}

-- Responding: question 12 alone, with the bytes of the text as place. What the other questions refuse is text itself.
abbrev pub response_check : List ℕ → ℕ → Verdict
response_check input room = room_question (length (printed input)) room

-- what the call answers: how many bytes were put at the start of the page, or the refusal by question 12
abbrev pub Response : Type 0
Response = Result ℕ Refusal

abbrev pub response_to : List ℕ → List ℕ → Response
response_to input page = answered (response_check input (length page)) (length (printed input))

-- the lent page after the call
abbrev pub page_after : List ℕ → List ℕ → List ℕ
page_after input page = lent_after (response_check input (length page)) (printed input) page

-- the numbers for each case of the answer; "A refusal gives number, place and zeros elsewhere"
abbrev pub reported : Response → ResponseReport
reported (Ok written) = record { number = 0; place = 0; length = written }
reported (Err r) = record { number = refusal_number r; place = refusal_place r; length = 0 }
