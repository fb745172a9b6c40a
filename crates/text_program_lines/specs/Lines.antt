-- Document 01, "The program": the text of each line that it prints.
use Rattle.std.specs.Prelude.{List, [], ◌∷◌, ◌++◌, ℕ}
use Rattle.calendar_days.specs.declared.DayKind.{DayKind}
use Rattle.carry.specs.declared.Totals.{Totals}
use Rattle.series_rows.specs.Rows.{Row}
use Rattle.text.specs.Text.{space, line_feed, date_text}
use Rattle.text_fields.specs.Fields.{day_type_text, field, total_word}

-- "prints for each day: date as yyyy-mm-dd, season letter .. with day digit .., count, Wh"
unfoldable pub day_line : DayKind → Row → List ℕ
day_line kind row =
    date_text row.date
    ++ (space ∷ (day_type_text kind ++ (field row.count ++ (field row.watt_hours ++ (line_feed ∷ [])))))

-- "The last line has the word total, then days, values, Wh, carry."
unfoldable pub last_line : ℕ → Totals → List ℕ
last_line days t =
    total_word ++ (field days ++ (field t.count ++ (field t.total ++ (field t.carry ++ (line_feed ∷ [])))))
