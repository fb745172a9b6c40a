-- What `put_answer` puts. No definition of document 01.
use Rattle.std.specs.Prelude.{List, ℕ}
use Rattle.call_request.specs.Request.{Request, request_check}
use Rattle.program_answer.specs.Answer.{lines_for}

-- questions 1 to 11 decide
abbrev pub lines_of : Request → List ℕ
lines_of q = lines_for (request_check q) q
