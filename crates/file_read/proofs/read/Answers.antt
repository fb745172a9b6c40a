-- `file_read::read` meets its contract: the found profile's values are the group's, and fill the table's start.
use Rattle.std.proofs.Common.{◌≡◌, ◌∙◌, sym, length}
use Rattle.refusal.specs.Questions.{Pass, room_question}
use Rattle.file_layout.specs.Header.{layout_of}
use Rattle.file_group.proofs.Group.{found-checked, part_count, part-words, table-length}
use Rattle.file_read.proofs.read.Goals as goal

pub returns-clause-table_after : goal.returns-clause-table_after
returns-clause-table_after c =
    let file = c.args.file.now in
    let group = c.args.group in
    let found = found-checked file group c.in_ok-at.was c.find_checked.ensures.value in
    let bytes = c.value_bytes-part.ensures.bytes in
    let count = part_count file group found.1 bytes in
    let room : room_question (layout_of file).entries (length c.args.table.now) ≡ Pass =
    rw count at (sym c.room_question.ensures ∙ c.in_ok-room_question.was)
    in
    rw (c.fill.ensures, part-words file group found.1 bytes, count) (simp (found.0, room, table-length file group))
