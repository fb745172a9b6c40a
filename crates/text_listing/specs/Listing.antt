-- Document 01, "prints for each day", and document 02, (e), "Each day .. has, in order, a line": line after line.
use Rattle.std.specs.Prelude.{List, [], ◌∷◌, ◌++◌, ℕ}
use Rattle.calendar_days.specs.declared.DayKind.{DayKind}
use Rattle.calendar_days.specs.Days.{day_kind}
use Rattle.series_rows.specs.Rows.{Row}

-- a line for each row, with the season and day type of its date, in any form
unfoldable pub line_after_line : (DayKind → Row → List ℕ) → List ℕ → List Row → List ℕ
line_after_line line holidays [] = []
line_after_line line holidays (row ∷ rest) = line (day_kind row.date holidays) row ++ line_after_line line holidays rest
