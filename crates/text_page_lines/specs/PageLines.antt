-- Document 02, (e), "A day page of fixed width": the text of its lines, "each field written as in the program".
use Rattle.std.specs.Prelude.{List, [], ◌∷◌, ◌++◌, ℕ, ◌+◌, replicate}
use Rattle.calendar_days.specs.declared.DayKind.{DayKind}
use Rattle.carry.specs.declared.Totals.{Totals}
use Rattle.series_rows.specs.Rows.{Row}
use Rattle.text.specs.Text.{space, hyphen, line_feed, date_text}
use Rattle.text_fields.specs.Fields.{day_type_text, total_word}
use Rattle.text_columns.specs.Columns.{right_aligned, left_aligned}

-- the widths of the fields: "date (10), space, day type (2), space, count right-aligned (6), space, Wh right-aligned (16), LF"
abbrev pub date_width : ℕ
date_width = 10

abbrev pub day_type_width : ℕ
day_type_width = 2

abbrev pub count_width : ℕ
count_width = 6

abbrev pub watt_hours_width : ℕ
watt_hours_width = 16

-- a line's length, by the width of its day type: "38 bytes"
abbrev pub line_length : ℕ → ℕ
line_length width = date_width + 1 + width + 1 + count_width + 1 + watt_hours_width + 1

-- the order of a line's fields, with the texts of the first two
unfoldable pub page_line : List ℕ → List ℕ → ℕ → ℕ → List ℕ
page_line first day_type count watt_hours =
    first
    ++ (space ∷ (day_type
    ++ (space ∷ (right_aligned count_width count
    ++ (space ∷ (right_aligned watt_hours_width watt_hours
    ++ (line_feed ∷ [])))))))

-- "a line with its own date (10), space, day type (2), .."
abbrev pub day_page_line : DayKind → Row → List ℕ
day_page_line kind row = page_line (date_text row.date) (day_type_text kind) row.count row.watt_hours

-- "The last line has "total" left-aligned in the first field and two hyphens as day type."
abbrev pub last_page_line : Totals → List ℕ
last_page_line t = page_line (left_aligned date_width total_word) (replicate day_type_width hyphen) t.count t.total
