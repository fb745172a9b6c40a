-- Document 01, "Then it expands day by day", and document 02, (e): the rows of a request, whose figures are what expanding answers.
use Rattle.std.specs.Prelude.{Err}
use Rattle.std.specs.Prelude.{◌≡◌, List, [], ◌∷◌, map, ℕ, ◌+◌, ◌<◌, length, take, drop}
use Rattle.lists.specs.Lists.{sum}
use Rattle.refusal.specs.declared.Refusal.{Refusal}
use Rattle.refusal.specs.Questions.{Pass}
use Rattle.calendar_dates.specs.declared.Date.{Date}
use Rattle.calendar_dates.specs.Dates.{date_of, number_of, days_later}
use Rattle.carry.specs.Carry.{last_carry}
use Rattle.carry.specs.Energy.{powers}
use Rattle.day_powers.specs.DayQuarters.{day_quarters}
use Rattle.series.specs.Series.{quarters_of_days}
use Rattle.call_request.specs.Request.{Request, request, days_in, basis_of, request_check}
use Rattle.call_expand.specs.Expanding.{totals, expansion, lent, IsExpanded}
use Rattle.series_rows.specs.Rows.{Row, row_of, rows}

-- "Each day of an expanding call": a request's rows
abbrev pub rows_of : Request → List Row
rows_of q = rows (basis_of q) q.yearly (days_in q) (date_of q.first) q.carry

-- the date of a request's day k, from 0
abbrev pub date_of_day : Request → ℕ → Date
date_of_day q k = days_later k (date_of q.first)

-- the carry after its first k days
abbrev pub carry_after_days : Request → ℕ → ℕ
carry_after_days q k = last_carry q.yearly (powers (quarters_of_days (day_quarters (basis_of q)) k (date_of q.first))) q.carry

-- the request for day k alone, with the carry that the days before it leave
abbrev pub on_day : Request → ℕ → Request
on_day q k =
    request q.file q.group (number_of (date_of_day q k)) (number_of (date_of_day q k)) q.holidays q.yearly (carry_after_days q k) []

-- the figures of a day's row are what a call for that day answers, and its carry is the next day's
pub record DayAsExpanded (q : Request) (k : ℕ) : Type 0 where
  pub row : take 1 (drop k (rows_of q)) ≡ row_of (date_of_day q k) (totals (on_day q k)).count (totals (on_day q k)).total ∷ []
  pub answer : IsExpanded (on_day q k)
  pub carry : (totals (on_day q k)).carry ≡ carry_after_days q (k + 1)

-- the theorem: the figures of a request's rows are what expanding answers. Proved in proofs/Rows.antt.
pub record AsExpanded (q : Request) : Type 0 where
  -- they add up to the totals, which the last line has
  pub days : length (rows_of q) ≡ days_in q
  pub counts : sum (map (λ row. row.count) (rows_of q)) ≡ (totals q).count
  pub watt_hours : sum (map (λ row. row.watt_hours) (rows_of q)) ≡ (totals q).total
  -- the totals are what one call for the whole period answers
  pub whole : request_check q ≡ Pass → IsExpanded q
  -- a period of one day has the row of its totals, whatever its questions say
  pub one_day : days_in q ≡ 1 → rows_of q ≡ row_of (date_of q.first) (totals q).count (totals q).total ∷ []
  -- each day's row is what a call for that day answers
  pub day : (k : ℕ) → request_check q ≡ Pass → k < days_in q → DayAsExpanded q k
  -- a refusal is the one that such a call answers
  pub refused : (output : List ℕ) (r : Refusal) → request_check q ≡ Err r → expansion (lent q output) ≡ Err r

unfoldable pub RowsAsExpanded : Type 0
RowsAsExpanded = (q : Request) → AsExpanded q
