-- What `put_amounts` puts. No definition of document 02.
use Rattle.std.specs.Prelude.{List, [], ◌∷◌, ◌++◌, ℕ}
use Rattle.text.specs.Text.{space, line_feed}
use Rattle.text_columns.specs.Columns.{right_aligned}
use Rattle.text_page_lines.specs.PageLines.{count_width, watt_hours_width}

-- the end of a line, behind its day type
abbrev pub amounts : ℕ → ℕ → List ℕ
amounts count watt_hours =
    space ∷ (right_aligned count_width count ++ (space ∷ (right_aligned watt_hours_width watt_hours ++ (line_feed ∷ []))))
