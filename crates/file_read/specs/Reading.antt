-- Document 01, "The profile file": what reading answers and leaves in the lent table, accepted and refused.
use Rattle.std.specs.Prelude.{List, ℕ, length}
use Rattle.refusal.specs.Questions.{Verdict}
use Rattle.refusal.specs.Questions.{◌then◌, room_question, lent_after}
use Rattle.file_layout.specs.Header.{layout_of}
use Rattle.file_group.specs.Group.{check, table_of}

-- Reading: questions 1 to 6 and 12 ("place = entries needed")
abbrev pub read_check : List ℕ → ℕ → ℕ → Verdict
read_check file group room = check file group then room_question (layout_of file).entries room

-- the lent table after the call
abbrev pub table_after : List ℕ → ℕ → List ℕ → List ℕ
table_after file group table = lent_after (read_check file group (length table)) (table_of file group) table
