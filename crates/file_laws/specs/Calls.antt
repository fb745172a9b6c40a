-- Demand 2: "A profile file that we write reads back to the same tables, and an accepted file is rewritten to the same bytes.": of the
-- calls `write` and `read` themselves, by what their contracts say they answer and leave in lent memory. Proved in proofs/Calls.antt.
use Rattle.std.specs.Prelude.{◌≡◌, List, ◌++◌, ℕ, ◌≤◌, ◌<◌, length, take, drop, get_or}
use Rattle.refusal.specs.Questions.{Pass}
use Rattle.file_check.specs.Check.{file_check}
use Rattle.file_read.specs.Reading.{read_check, table_after}
use Rattle.file_written.specs.Written.{written}
use Rattle.file_write_check.specs.WriteCheck.{write_check}
use Rattle.file_write.specs.Buffer.{buffer_after}
use Rattle.file_laws.specs.RoundTrip.{Below, codes_of, values_of, table_number}

-- `read` of a group: with a lent table of 864 entries or more it is accepted, fills the first 864 and keeps those beyond
pub record Reads (file : List ℕ) (group : ℕ) (values : List ℕ) : Type 0 where
  pub passes : (table : List ℕ) → 864 ≤ length table → read_check file group (length table) ≡ Pass
  pub fills : (table : List ℕ) → 864 ≤ length table → table_after file group table ≡ values ++ drop 864 table

-- `write` of codes and values: with a lent buffer as long as the file or longer it is accepted, fills the buffer's start with the
-- file and keeps the bytes beyond
pub record Writes (codes values file : List ℕ) : Type 0 where
  pub passes : (buffer : List ℕ) → length file ≤ length buffer → write_check codes values (length buffer) ≡ Pass
  pub fills : (buffer : List ℕ) → length file ≤ length buffer → buffer_after codes values buffer ≡ file ++ drop (length file) buffer

-- the file that an accepted `write` leaves at the start of its buffer
abbrev pub file_in : List ℕ → List ℕ → List ℕ → List ℕ
file_in codes values buffer = take (length (written codes values)) (buffer_after codes values buffer)

-- "A profile file that we write reads back to the same tables"
unfoldable pub WriteThenRead : Type 0
WriteThenRead =
    (codes values buffer : List ℕ) → write_check codes values (length buffer) ≡ Pass → (i : ℕ) → i < length codes →
    Reads (file_in codes values buffer) (get_or codes i 0) (table_number i values)

-- "an accepted file is rewritten to the same bytes": by `write` of its contents, which are what `read` gives of it, group by group
unfoldable pub ReadThenWrite : Type 0
ReadThenWrite =
    (file : List ℕ) → Below 256 file → file_check file ≡ Pass →
    ((i : ℕ) → i < length (codes_of file) → Reads file (get_or (codes_of file) i 0) (table_number i (values_of file)))
    × Writes (codes_of file) (values_of file) file
