-- Document 01, "The profile file" and question 6: where a wanted group stands in a file, and its values.
use Rattle.std.specs.Prelude.{cond, List, ℕ, zero, suc, ◌+◌, ltb, eqb, length}
use Rattle.big_endian.specs.BigEndian.{byte_at, words_from}
use Rattle.refusal.specs.declared.Refusal.TheVariants.{NoGroup}
use Rattle.refusal.specs.Questions.{Verdict}
use Rattle.refusal.specs.Questions.{ask, ◌then◌}
use Rattle.file_layout.specs.declared.Layout.{Layout}
use Rattle.file_layout.specs.Header.{header_length, layout_of, profile_length}
use Rattle.file_check.specs.Check.{file_check}

-- the offset of the group's code, among those of n profiles from `at` on; where none has it, the offset behind the last
unfoldable pub offset_among : Layout → List ℕ → ℕ → ℕ → ℕ → ℕ
offset_among layout file group zero at = at
offset_among layout file group (suc n) at =
    cond (eqb (byte_at file at) group) at (offset_among layout file group n (at + profile_length layout))

-- where the wanted group's code stands in the file; where it is missing, the end of the file
abbrev pub group_offset : List ℕ → ℕ → ℕ
group_offset file group = offset_among (layout_of file) file group (layout_of file).count header_length

-- 6. "Is the wanted group in the file?", with the place that a refusal names
unfoldable pub group_question : List ℕ → ℕ → ℕ → Verdict
group_question file group place = ask (ltb (group_offset file group) (length file)) (NoGroup place)

-- questions 1 to 6
abbrev pub check : List ℕ → ℕ → Verdict
check file group = file_check file then group_question file group 0

-- the offset of a group's values
abbrev pub values_offset : List ℕ → ℕ → ℕ
values_offset file group = group_offset file group + (layout_of file).before

-- a group's 864 values
abbrev pub table_of : List ℕ → ℕ → List ℕ
table_of file group = words_from file (layout_of file).entries (values_offset file group)
