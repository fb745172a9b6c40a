-- What listing promises of a page: 1,461 days have at most 146,100 values, of at most 10^9 Wh each.
-- No definition of document 01 or 02.
use Rattle.std.specs.Prelude.{◌≡◌, List, ℕ, ◌+◌, ◌*◌, ◌^◌, ◌≤◌}
use Rattle.calendar_dates.specs.declared.Date.{Date}
use Rattle.calendar_days.specs.declared.DayKind.{DayKind}
use Rattle.carry.specs.declared.Totals.{Totals}
use Rattle.carry.specs.Energy.{powers}
use Rattle.day_powers.specs.DayQuarters.{Basis, day_quarters}
use Rattle.series.specs.Series.{quarters_of_days}
use Rattle.series.specs.Inside.{comes_to}
use Rattle.series_rows.specs.Rows.{Row, rows}
use Rattle.text.specs.declared.Page.{Page}
use Rattle.text.specs.Inside.{Put}
use Rattle.text_listing.specs.Listing.{line_after_line}

-- the lines of some days, begun with a carry, were put on a page in a form, and these are the days' totals
pub record Listed (line : DayKind → Row → List ℕ) (longest : ℕ) (b : Basis) (yearly carry days : ℕ) (d : Date) (before : Page) (totals : Totals) (after : Page) : Type 0 where
  pub lines : Put (line_after_line line b.holidays (rows b yearly days d carry)) before after
  pub come_to : totals ≡ comes_to yearly (powers (quarters_of_days (day_quarters b) days d)) carry
  pub short : after.at ≤ before.at + longest * days
  pub few : totals.count ≤ 146_100
  pub most : totals.total ≤ 146_100 * 10 ^ 9
