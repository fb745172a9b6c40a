-- Demand 2's round trips of the calls, from those of the definitions that the calls' contracts name. Assumes nothing.
use mathlib.Core.Path.{◌≡◌, refl, sym, ◌∙◌, ap}
use mathlib.Core.List.{List, ◌++◌}
use Prim.Native.Nat.{ℕ, ◌≤◌, ◌<◌}
use native.Mathlib.Omega.{arith}
use lib.ListN.{length, drop, get_or}
use lib.Seq.{take_at}
use Rattle.refusal.specs.Questions.{Pass}
use Rattle.refusal.proofs.Questions.{then-pass, room-enough}
use Rattle.file_layout.specs.Header.{layout_of}
use Rattle.file_group.specs.Group.{check, table_of}
use Rattle.file_group.proofs.Group.{table-length}
use Rattle.file_read.specs.Reading.{read_check}
use Rattle.file_written.specs.Written.{written}
use Rattle.file_write_check.specs.WriteCheck.{write_check}
use Rattle.file_write.specs.Buffer.{buffer_after}
use Rattle.file_laws.specs.RoundTrip.{codes_of, values_of, table_number, WrittenReadsBack, AcceptedIsRewritten}
use Rattle.file_laws.specs.Calls.{Reads, file_in, WriteThenRead, ReadThenWrite}
use Rattle.file_laws.proofs.RoundTrip.{written-reads-back, accepted-is-rewritten}

-- `read` fills the table with a group's values where questions 1 to 6 pass
reads : (file : List ℕ) (group : ℕ) {values : List ℕ} → check file group ≡ Pass → table_of file group ≡ values → Reads file group values
unfolding layout_of
reads file group pass own =
    let room : (table : List ℕ) → 864 ≤ length table → read_check file group (length table) ≡ Pass =
    λ table h. then-pass _ pass ∙ room-enough 864 (length table) h in
    record { passes = room; fills = λ table h. rw (room table h, table-length file group, own) }

-- `write` fills the buffer's start with the file where its questions pass
filled : (codes values buffer : List ℕ) → write_check codes values (length buffer) ≡ Pass →
    buffer_after codes values buffer ≡ written codes values ++ drop (length (written codes values)) buffer
filled codes values buffer pass = rw pass

file-in : (codes values buffer : List ℕ) → write_check codes values (length buffer) ≡ Pass → file_in codes values buffer ≡ written codes values
file-in codes values buffer pass =
    rw (filled codes values buffer pass) (take_at (written codes values) (drop (length (written codes values)) buffer) _ refl)

-- `read` of what was written gives each group's own values
each_read : (codes values : List ℕ) {file : List ℕ} (room : ℕ) → write_check codes values room ≡ Pass → file ≡ written codes values →
    (i : ℕ) → i < length codes → Reads file (get_or codes i 0) (table_number i values)
unfolding WrittenReadsBack
each_read codes values room pass same i h =
    let back = (written-reads-back codes values room pass).1 i h in
    rw same (reads (written codes values) (get_or codes i 0) back.0 back.1)

pub write-then-read : WriteThenRead
unfolding WriteThenRead
write-then-read codes values buffer pass = each_read codes values (length buffer) pass (file-in codes values buffer pass)

pub read-then-write : ReadThenWrite
unfolding ReadThenWrite AcceptedIsRewritten
read-then-write file bytes pass =
    let again = accepted-is-rewritten file bytes pass in
    let whole = again (length file) (omega arith) in
    let room : (buffer : List ℕ) → length file ≤ length buffer → write_check (codes_of file) (values_of file) (length buffer) ≡ Pass =
    λ buffer h. (again (length buffer) h).0 in (
      each_read (codes_of file) (values_of file) (length file) whole.0 (sym whole.1),
      record {
        passes = room;
        fills = λ buffer h. filled (codes_of file) (values_of file) buffer (room buffer h) ∙ ap (λ (f : List ℕ). f ++ drop (length f) buffer) whole.1;
      },
    )
