-- Document 01, "The program": what it prints for an input, every byte of it.
use Rattle.std.specs.Prelude.{List, ℕ}
use Rattle.refusal.specs.Questions.{◌then◌}
use Rattle.call_request.specs.Request.{request_check}
use Rattle.program_input.specs.Input.{input_question, request_in}
use Rattle.program_answer.specs.Answer.{lines_for}

-- question 13 "before all others", then questions 1 to 11
unfoldable pub printed : List ℕ → List ℕ
printed input = lines_for (input_question input then request_check (request_in input)) (request_in input)
