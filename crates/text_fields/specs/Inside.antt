-- The row of a day of a listing. No definition of document 01.
use Rattle.series_rows.specs.Rows.{Row, row_of}
use Rattle.text_fields.specs.declared.day_line.DayEntry.{DayEntry}

abbrev pub row_in : DayEntry → Row
row_in entry = row_of entry.day entry.count entry.watt_hours
