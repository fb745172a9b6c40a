-- Document 01, "All numbers in it are big-endian.": the numbers that bytes hold, and the bytes of numbers.
use Rattle.std.specs.Prelude.{List, [], ◌∷◌, ℕ, ◌+◌, ◌*◌, ◌/◌, ◌%◌, get_or}
use Rattle.lists.specs.Lists.{each_from}

-- "All numbers in it are big-endian": the byte at a place, and the 16-bit number that begins there
abbrev pub byte_at : List ℕ → ℕ → ℕ
byte_at file at = get_or file at 0

abbrev pub word_at : List ℕ → ℕ → ℕ
word_at file at = byte_at file at * 256 + byte_at file (at + 1)

-- n values, one after the other, from `at` on
abbrev pub words_from : List ℕ → ℕ → ℕ → List ℕ
words_from file n at = each_from (word_at file) 2 n at

-- the 32-bit number that begins at a place, and n of them, one after the other
abbrev pub long_at : List ℕ → ℕ → ℕ
long_at input at = word_at input at * 65_536 + word_at input (at + 2)

abbrev pub longs_from : List ℕ → ℕ → ℕ → List ℕ
longs_from input n at = each_from (long_at input) 4 n at

-- 16-bit numbers, big-endian
unfoldable pub bytes_of : List ℕ → List ℕ
bytes_of [] = []
bytes_of (v ∷ vs) = v / 256 ∷ v % 256 ∷ bytes_of vs
