-- What a quick look at the values tells. No definition of document 01.
use Rattle.std.specs.Prelude.{List, ℕ, ◌+◌, ◌*◌, ◌%◌, ◌≤◌, ◌<◌}
use Rattle.big_endian.specs.BigEndian.{word_at}

-- each of n values is at most what the lower byte of `joined` makes as its upper byte, with a lower byte of 255
abbrev pub UpperBytes : List ℕ → ℕ → ℕ → Type 0
UpperBytes values n joined = (i : ℕ) → i < n → word_at values (i * 2) ≤ joined % 256 * 256 + 255
