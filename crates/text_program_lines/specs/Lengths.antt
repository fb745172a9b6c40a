-- How long the program's lines are at most. Assumes nothing.
use Rattle.std.proofs.Common.{ℕ, ◌≤◌, ◌<◌, length, arith, length-append}
use Rattle.calendar_days.specs.declared.DayKind.{DayKind}
use Rattle.carry.specs.declared.Totals.{Totals}
use Rattle.series_rows.specs.Rows.{Row}
use Rattle.text.proofs.Text.{decimal-short, decimal_most}
use Rattle.text_program_lines.specs.Lines.{day_line, last_line}

pub day-line-short : (kind : DayKind) (row : Row) → row.count < 1_000 → length (day_line kind row) ≤ 39
unfolding day_line
day-line-short kind row few =
    simp length-append (omega (arith, decimal-short row.count 3 few (omega arith), decimal_most row.watt_hours))

pub last-line-short : (days : ℕ) (t : Totals) → length (last_line days t) ≤ 90
unfolding last_line
last-line-short days t =
    simp length-append (omega (arith, decimal_most days, decimal_most t.count, decimal_most t.total, decimal_most t.carry))
