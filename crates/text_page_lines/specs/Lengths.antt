-- A day's line is no longer than its form says: the law of `PageLine`, whose proof stands here since the code cites it.
use Rattle.std.proofs.Common.{◌^◌, ◌≤◌, ◌<◌, length, arith, length-append}
use Rattle.calendar_days.specs.declared.DayKind.{DayKind}
use Rattle.series_rows.specs.Rows.{Row}
use Rattle.text_columns.proofs.Columns.{length-right}
use Rattle.text_page_lines.specs.PageLines.{count_width, watt_hours_width, day_type_width, line_length, page_line, day_page_line}

pub within-line : (kind : DayKind) (row : Row) → row.count < 1_000 → row.watt_hours < 10 ^ 16 → length (day_page_line kind row) ≤ line_length day_type_width
unfolding page_line
within-line kind row few small =
    let counts = length-right count_width row.count (omega arith) (omega arith) in
    let energy = length-right watt_hours_width row.watt_hours (omega arith) (omega arith) in
    simp length-append (omega arith)
