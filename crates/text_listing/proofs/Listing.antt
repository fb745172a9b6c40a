-- How many figures a day has, and how long the lines of some days are. Assumes nothing.
use Rattle.std.proofs.Common.{ℕ, zero, suc, ◌+◌, ◌*◌, ◌≤◌, ◌<◌, ◌≡◌, List, ◌++◌, length, length-append, arith}
use lib.ListN.{length-map}
use Rattle.calendar_dates.specs.declared.Date.{Date}
use Rattle.calendar_days.specs.declared.DayKind.{DayKind}
use Rattle.calendar_days.specs.Days.{clock}
use Rattle.calendar_period.proofs.Periods.{clock-small}
use Rattle.carry.specs.Energy.{powers}
use Rattle.carry.proofs.Carry.{length-figures}
use Rattle.day_powers.specs.DayQuarters.{Basis, day_quarters}
use Rattle.day_powers.proofs.DayQuarters.{length-day-quarters}
use Rattle.series_rows.specs.Rows.{Row, day_figures, day_row, rows}
use Rattle.text_listing.specs.Listing.{line_after_line}

-- a day has at most 100 powers, and as many figures
pub few-powers : (b : Basis) (d : Date) → length b.values ≡ 864 → length (powers (day_quarters b d)) ≤ 100
few-powers b d h =
    let limit = clock-small (clock d) in
    omega (arith, length-map (day_quarters b d) (λ q. q.power), length-day-quarters b d h)

few-figures : (b : Basis) (yearly : ℕ) (d : Date) (carry : ℕ) → length b.values ≡ 864 → length (day_figures b yearly d carry) < 1_000
few-figures b yearly d carry h = omega (arith, length-figures yearly (powers (day_quarters b d)) carry, few-powers b d h)

-- in a form whose lines are no longer than its longest
module _ (line : DayKind → Row → List ℕ) (longest : ℕ) (short : (kind : DayKind) (row : Row) → row.count < 1_000 → length (line kind row) ≤ longest) where
  -- a line, and those behind it
  line-and-rest : (kind : DayKind) (row : Row) (rest : List ℕ) {most : ℕ} → row.count < 1_000 → length rest ≤ most → length (line kind row ++ rest) ≤ longest + most
  line-and-rest kind row rest h k = omega (arith, length-append (line kind row) rest, short kind row h, k)

  -- the lines of some days
  pub lines-short : (b : Basis) (yearly n : ℕ) (d : Date) (carry : ℕ) → length b.values ≡ 864 →
      length (line_after_line line b.holidays (rows b yearly n d carry)) ≤ longest * n
  unfolding rows line_after_line
  lines-short b yearly zero d carry h = omega arith
  lines-short b yearly (suc n) d carry h =
      let all : length (line_after_line line b.holidays (rows b yearly (suc n) d carry)) ≤ longest + longest * n =
      line-and-rest _ (day_row b yearly d carry) _ (few-figures b yearly d carry h) (lines-short b yearly n _ _ h) in
      omega (arith, all)
