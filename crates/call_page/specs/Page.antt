-- Document 02, (e), "A day page of fixed width": what is asked of a call, what it answers, and what it leaves on the lent page, accepted
-- and refused. "Expanding's arguments": a `Request`, with the lent page as it was before for its output.
use Rattle.std.specs.Prelude.{◌≡◌, List, ◌++◌, ℕ, ◌+◌, ◌*◌, leb, length}
use Rattle.refusal.specs.declared.Refusal.TheVariants.{ShortPage}
use Rattle.refusal.specs.Questions.{Verdict, answered, ask, ◌then◌, lent_after}
use Rattle.call_request.specs.Request.{Request, days_in, request_check}
use Rattle.call_expansion.specs.declared.ExpansionReport.{ExpansionReport}
use Rattle.call_expansion.specs.Answered.{Expansion, reported}
use Rattle.call_expand.specs.Expanding.{totals}
use Rattle.call_rows.specs.Rows.{rows_of}
use Rattle.text_page_lines.specs.PageLines.{day_type_width, line_length, day_page_line, last_page_line}
use Rattle.text_listing.specs.Listing.{line_after_line}

-- "Each day of an expanding call has, in order, a line", then "The last line"
unfoldable pub page_text : Request → List ℕ
page_text q = line_after_line day_page_line q.holidays (rows_of q) ++ last_page_line (totals q)

-- the bytes needed for some days: "38 bytes" for each day, and for the last line
abbrev pub bytes_needed : ℕ → ℕ
bytes_needed days = line_length day_type_width * (days + 1)

-- "lent page too short 19, place = bytes needed"
unfoldable pub page_question : ℕ → ℕ → Verdict
page_question days room = ask (leb (bytes_needed days) room) (ShortPage (bytes_needed days))

-- "Expanding's .. questions, but in place of 12" 19: 1 to 11, then 19
unfoldable pub page_check : Request → Verdict
page_check q = request_check q then page_question (days_in q) (length q.output)

-- "Expanding's .. answer": count, total and last carry
unfoldable pub page_answer : Request → Expansion
page_answer q = answered (page_check q) (totals q)

-- the lent page after the call
unfoldable pub page_after : Request → List ℕ
page_after q = lent_after (page_check q) (page_text q) q.output

-- the contract: what the call answered, also in numbers, and its page afterwards
pub record Prints (q : Request) (answer : Expansion) (after : List ℕ) : Type 0 where
  pub answers : answer ≡ page_answer q
  pub reports : reported answer ≡ reported (page_answer q)
  pub leaves : after ≡ page_after q

-- the contract of the exported call: its report, and the page afterwards
pub record Reports (q : Request) (report : ExpansionReport) (after : List ℕ) : Type 0 where
  pub answers : report ≡ reported (page_answer q)
  pub leaves : after ≡ page_after q
