-- Document 01, "The program": the lines of an accepted request.
use Rattle.std.specs.Prelude.{List, ◌++◌, ℕ}
use Rattle.call_request.specs.Request.{Request, days_in}
use Rattle.call_expand.specs.Expanding.{totals}
use Rattle.call_rows.specs.Rows.{rows_of}
use Rattle.text_program_lines.specs.Lines.{day_line, last_line}
use Rattle.text_listing.specs.Listing.{line_after_line}

-- "Then it expands day by day from carry 0", which is the carry of an input's request: a line "for each day", then "The last line"
abbrev pub accepted_lines : Request → List ℕ
accepted_lines q = line_after_line day_line q.holidays (rows_of q) ++ last_line (days_in q) (totals q)

-- the room that is enough for every input, by our own choice: 1,461 days have lines of at most 39 bytes, and a last line of at most 90
abbrev pub page_length : ℕ
page_length = 65_536
