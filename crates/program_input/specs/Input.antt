-- Document 01, "The program": "Standard input: group (1 byte), first and last date, A (4 bytes each), list length (2 bytes), the
-- dates (4 bytes each), then the profile file; big-endian." And question 13.
use Rattle.std.specs.Prelude.{◌&&◌, List, [], ℕ, ◌+◌, ◌*◌, leb, length, drop}
use Rattle.big_endian.specs.BigEndian.{byte_at, word_at, long_at, longs_from}
use Rattle.refusal.specs.declared.Refusal.TheVariants.{BadInput}
use Rattle.refusal.specs.Questions.{Verdict}
use Rattle.refusal.specs.Questions.{ask}
use Rattle.call_request.specs.Request.{Request, request}

-- group, two dates, A and list length
abbrev pub head_length : ℕ
head_length = 15

abbrev pub list_length : List ℕ → ℕ
list_length input = word_at input 13

-- where the profile file begins
abbrev pub file_start : List ℕ → ℕ
file_start input = head_length + list_length input * 4

-- 13. "is the input at most 65,536 bytes and are its head and list complete?"
unfoldable pub input_question : List ℕ → Verdict
input_question input =
    ask
    (leb (length input) 65_536 && leb head_length (length input) && leb (file_start input) (length input))
    BadInput

-- the request that an input holds, begun with carry 0; the program lends no output for the whole period
abbrev pub request_in : List ℕ → Request
request_in input =
    request
    (drop (file_start input) input)
    (byte_at input 0)
    (long_at input 1)
    (long_at input 5)
    (longs_from input (list_length input) head_length)
    (long_at input 9)
    0
    []
