-- Document 01, "The program": the lines that answer a request.
use Rattle.std.specs.Prelude.{Ok, Err}
use Rattle.std.specs.Prelude.{List, ℕ}
use Rattle.refusal.specs.Questions.{Verdict}
use Rattle.call_request.specs.Request.{Request}
use Rattle.program_refusal.specs.Refused.{refused_line}
use Rattle.program_answer.specs.Accepted.{accepted_lines}

-- "The whole request is checked before the first line.": the lines of an accepted request, or the line of a refusal
unfoldable pub lines_for : Verdict → Request → List ℕ
lines_for (Ok _) q = accepted_lines q
lines_for (Err r) q = refused_line r
