-- Document 01, "The profile file" and questions 1 to 3: the header, and how the profiles lie.
use Rattle.std.specs.Prelude.{◌&&◌, List, [], ◌∷◌, ℕ, ◌+◌, ◌*◌, leb, eqb, length}
use Rattle.big_endian.specs.BigEndian.{byte_at, word_at}
use Rattle.refusal.specs.declared.Refusal.TheVariants.{NoMark, WrongVersion, WrongLength}
use Rattle.refusal.specs.Questions.{Verdict}
use Rattle.refusal.specs.Questions.{ask, ◌then◌}
use Rattle.file_layout.specs.declared.Layout.{Layout}

-- "the mark "SLP" in ASCII"
abbrev pub mark : List ℕ
mark = 83 ∷ 76 ∷ 80 ∷ []

-- mark, version and count
abbrev pub header_length : ℕ
header_length = 6

-- what the header says of a version 1 file: its count, and of each profile the bytes before its values, which are the group
-- code alone, and the number of its values
unfoldable pub layout_of : List ℕ → Layout
layout_of file = record { count = byte_at file 5; before = 1; entries = 864 }

-- "Each profile is 1,729 bytes"
abbrev pub profile_length : Layout → ℕ
profile_length layout = layout.before + layout.entries * 2

abbrev pub file_length : Layout → ℕ
file_length layout = header_length + layout.count * profile_length layout

-- 1. "Has the file at least 6 bytes and the mark?"
unfoldable pub mark_question : List ℕ → Verdict
mark_question file =
    ask
    (leb header_length (length file)
    && eqb (byte_at file 0) (byte_at mark 0)
    && eqb (byte_at file 1) (byte_at mark 1)
    && eqb (byte_at file 2) (byte_at mark 2))
    NoMark

-- 2. "Is the version 1?"
unfoldable pub version_question : List ℕ → Verdict
version_question file = ask (eqb (word_at file 3) 1) WrongVersion

-- 3. "Is the count 1 to 11 and the length 6 + 1,729 × count?"
unfoldable pub length_question : Layout → List ℕ → Verdict
length_question layout file =
    ask (leb 1 layout.count && leb layout.count 11 && eqb (length file) (file_length layout)) WrongLength

-- questions 1 to 3
unfoldable pub header_check : List ℕ → Verdict
header_check file = mark_question file then version_question file then length_question (layout_of file) file
