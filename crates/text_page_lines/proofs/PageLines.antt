-- A line has its length. Assumes nothing.
use mathlib.Core.Path.{◌≡◌}
use mathlib.Core.List.{List}
use Prim.Native.Nat.{ℕ, ◌+◌, ◌^◌, ◌<◌}
use native.Mathlib.Omega.{arith}
use lib.ListN.{length, replicate, length-append}
use Rattle.calendar_days.specs.declared.DayKind.{DayKind}
use Rattle.carry.specs.declared.Totals.{Totals}
use Rattle.series_rows.specs.Rows.{Row}
use Rattle.text.specs.Text.{hyphen, date_text}
use Rattle.text_fields.specs.Fields.{day_type_text, total_word}
use Rattle.text_columns.specs.Columns.{left_aligned}
use Rattle.text_columns.proofs.Columns.{length-right}
use Rattle.text_page_lines.specs.PageLines.{date_width, day_type_width, line_length, page_line, day_page_line, last_page_line}
use Rattle.text_page_lines.specs.Inside.{amounts}

module _ (count watt_hours : ℕ) (few : count < 10 ^ 6) (small : watt_hours < 10 ^ 16) where
  pub amounts-length : length (amounts count watt_hours) ≡ 25
  amounts-length =
      let counts = length-right 6 count (omega arith) few in
      let energy = length-right 16 watt_hours (omega arith) small in
      simp length-append (omega arith)

  line-length : (first day_type : List ℕ) → length (page_line first day_type count watt_hours) ≡ length first + length day_type + 26
  unfolding page_line
  line-length first day_type =
      let counts = length-right 6 count (omega arith) few in
      let energy = length-right 16 watt_hours (omega arith) small in
      simp length-append (omega arith)

pub day-line-length : (kind : DayKind) (row : Row) → row.count < 10 ^ 6 → row.watt_hours < 10 ^ 16 → length (day_page_line kind row) ≡ line_length day_type_width
day-line-length kind row few small =
    line-length row.count row.watt_hours few small (date_text row.date) (day_type_text kind)

pub last-line-length : (t : Totals) → t.count < 10 ^ 6 → t.total < 10 ^ 16 → length (last_page_line t) ≡ line_length day_type_width
last-line-length t few small = line-length t.count t.total few small (left_aligned date_width total_word) (replicate day_type_width hyphen)
