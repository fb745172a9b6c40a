-- 65,536 bytes are enough for what is printed: a line a day of at most 39, 1,461 days, and a last line of at most 90; or the line
-- of a refusal. Assumes nothing.
use Rattle.std.specs.Prelude.{Ok, Err}
use mathlib.Core.Path.{◌≡◌, refl}
use mathlib.Core.List.{List}
use Prim.Native.Nat.{ℕ, ◌≤◌}
use native.Mathlib.Omega.{arith}
use lib.ListN.{length, length-append}
use Rattle.refusal.specs.Questions.{Verdict}
use Rattle.refusal.specs.Questions.{Pass}
use Rattle.refusal.specs.declared.Refusal.{Refusal}
use Rattle.refusal.specs.Questions.{refusal_number, refusal_place, ◌then◌}
use Rattle.refusal.proofs.Questions.{then_next, room-enough}
use Rattle.calendar_dates.specs.Dates.{date_of}
use Rattle.file_layout.specs.Header.{layout_of}
use Rattle.file_group.specs.Group.{table_of}
use Rattle.file_group.proofs.Group.{table-length}
use Rattle.call_request.specs.Request.{Request, days_in, basis_of, request_check}
use Rattle.call_request.proofs.Sound.{sound}
use Rattle.call_expand.specs.Expanding.{totals}
use Rattle.call_rows.specs.Rows.{rows_of}
use Rattle.text.proofs.Text.{decimal_most}
use Rattle.text_program_lines.specs.Lines.{day_line, last_line}
use Rattle.text_listing.specs.Listing.{line_after_line}
use Rattle.text_program_lines.specs.Lengths.{day-line-short, last-line-short}
use Rattle.text_listing.proofs.Listing.{lines-short}
use Rattle.program_input.specs.Input.{input_question, request_in}
use Rattle.program_refusal.specs.Refused.{refused_line}
use Rattle.program_answer.specs.Accepted.{page_length}
use Rattle.program_answer.specs.Answer.{lines_for}
use Rattle.program_text.specs.Printed.{printed}
use Rattle.program_response.specs.Responding.{response_to}
use Rattle.program_laws.specs.Room.{EnoughRoom}

values-of-table : (q : Request) → length (table_of q.file q.group) ≡ 864
unfolding layout_of
values-of-table q = table-length q.file q.group

lines-room : (q : Request) (v : Verdict) → (v ≡ Pass → request_check q ≡ Pass) → length (lines_for v q) ≤ page_length
unfolding lines_for refused_line
lines-room q (Ok _) h =
    let days = (sound q (h refl)).period.short in
    let lines = lines-short day_line 39 (λ kind row few. day-line-short kind row few) (basis_of q) q.yearly (days_in q) (date_of q.first) q.carry (values-of-table q) in
    omega (arith, lines, days, last-line-short (days_in q) (totals q), length-append (line_after_line day_line q.holidays (rows_of q)) (last_line (days_in q) (totals q)))
lines-room q (Err r) h = simp length-append (omega (arith, decimal_most (refusal_number r), decimal_most (refusal_place r)))

pub enough-room : EnoughRoom
unfolding EnoughRoom printed
enough-room input =
    let q = request_in input in
    lines-room q (input_question input then request_check q) (then_next (input_question input) (request_check q))

-- so a page of that length has room for every response
pub no_refusal : (input page : List ℕ) {r : Refusal} → page_length ≤ length page → Err r ≡ response_to input page → ⊥
unfolding EnoughRoom
no_refusal input page room e =
    let pass = room-enough (length (printed input)) (length page) (omega (arith, enough-room input)) in
    let no = rw pass at e in
    cc
