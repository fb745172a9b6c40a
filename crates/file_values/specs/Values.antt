-- Document 01, question 5: the values of a file.
use Rattle.std.specs.Prelude.{List, ℕ, ◌+◌, leb}
use Rattle.big_endian.specs.BigEndian.{word_at}
use Rattle.refusal.specs.declared.Refusal.TheVariants.{BadValue}
use Rattle.refusal.specs.Questions.{Verdict}
use Rattle.refusal.specs.Questions.{ask, ask_each}
use Rattle.file_layout.specs.declared.Layout.{Layout}
use Rattle.file_layout.specs.Header.{header_length, profile_length}

-- 5. "Are all values at most 20,000?", of the value at one offset, of a profile's values, and of all
unfoldable pub value_question : List ℕ → ℕ → Verdict
value_question file at = ask (leb (word_at file at) 20_000) (BadValue at)

unfoldable pub profile_values_question : Layout → List ℕ → ℕ → Verdict
profile_values_question layout file at = ask_each (value_question file) 2 layout.entries (at + layout.before)

abbrev pub values_question : Layout → List ℕ → Verdict
values_question layout file =
    ask_each (profile_values_question layout file) (profile_length layout) layout.count header_length
