-- Demand 2: "A profile file that we write reads back to the same tables, and an accepted file is rewritten to the same bytes."
-- Proved in proofs/RoundTrip.antt.
use Rattle.std.specs.Prelude.{◌≡◌, List, [], ◌++◌, ℕ, zero, suc, ◌+◌, ◌*◌, ◌≤◌, ◌<◌, length, take, drop, get_or}
use Rattle.lists.specs.Lists.{each_from}
use Rattle.big_endian.specs.BigEndian.{byte_at, words_from}
use Rattle.refusal.specs.Questions.{Pass}
use Rattle.file_layout.specs.declared.Layout.{Layout}
use Rattle.file_layout.specs.Header.{header_length, layout_of, profile_length}
use Rattle.file_check.specs.Check.{file_check}
use Rattle.file_group.specs.Group.{check, table_of}
use Rattle.file_written.specs.Written.{written}
use Rattle.file_write_check.specs.WriteCheck.{write_check}

-- every element of a list is below a limit: 256 for a list of bytes
abbrev pub Below : ℕ → List ℕ → Type 0
Below limit xs = (i : ℕ) → i < length xs → get_or xs i 0 < limit

-- a file's contents: the codes and the values of n profiles from `at` on, and of all
abbrev pub codes_from : Layout → List ℕ → ℕ → ℕ → List ℕ
codes_from layout file n at = each_from (byte_at file) (profile_length layout) n at

unfoldable pub values_from : Layout → List ℕ → ℕ → ℕ → List ℕ
values_from layout file zero at = []
values_from layout file (suc n) at =
    words_from file layout.entries (at + layout.before) ++ values_from layout file n (at + profile_length layout)

abbrev pub codes_of : List ℕ → List ℕ
codes_of file = codes_from (layout_of file) file (layout_of file).count header_length

abbrev pub values_of : List ℕ → List ℕ
values_of file = values_from (layout_of file) file (layout_of file).count header_length

-- the i-th group's 864 of all values
abbrev pub table_number : ℕ → List ℕ → List ℕ
table_number i values = take 864 (drop (i * 864) values)

-- what writing makes of an accepted writing is an accepted file of these codes, and reading each of its groups gives that
-- group's values
unfoldable pub WrittenReadsBack : Type 0
WrittenReadsBack =
    (codes values : List ℕ) (room : ℕ) → write_check codes values room ≡ Pass →
    (codes_of (written codes values) ≡ codes)
    × ((i : ℕ) → i < length codes →
    (check (written codes values) (get_or codes i 0) ≡ Pass)
    × (table_of (written codes values) (get_or codes i 0) ≡ table_number i values))

-- "each accepted file equals what writing makes of its contents": writing accepts them wherever the buffer is as long as the file
unfoldable pub AcceptedIsRewritten : Type 0
AcceptedIsRewritten =
    (file : List ℕ) → Below 256 file → file_check file ≡ Pass → (room : ℕ) → length file ≤ room →
    (write_check (codes_of file) (values_of file) room ≡ Pass) × (written (codes_of file) (values_of file) ≡ file)
