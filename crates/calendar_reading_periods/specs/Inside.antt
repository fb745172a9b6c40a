-- What is known of first dates whose questions passed, and the periods that they begin. No definition of document 02.
use Rattle.std.specs.Prelude.{◌≡◌, true, List, [], ◌∷◌, ℕ, ◌+◌, ◌≤◌}
use Rattle.lists.specs.Lists.{Before}
use Rattle.calendar_dates.specs.Dates.{date_of, is_date, day_number}
use Rattle.calendar_period.specs.Period.{PeriodDays, days_of, period_days}
use Rattle.calendar_reading_periods.specs.ReadingPeriods.{end_of}

-- first dates that are real, rise and do not pass the span's last date
abbrev pub FirstDates : ℕ → List ℕ → Type 0
FirstDates last [] = Unit {0}
FirstDates last (start ∷ starts) = (is_date (date_of start) ≡ true) × (start ≤ last) × Before start starts × FirstDates last starts

-- from the first of them to the span's end are at most 1,461 days
abbrev pub FewDays : ℕ → List ℕ → Type 0
FewDays last [] = Unit {0}
FewDays last (start ∷ starts) = days_of (date_of start) (date_of last) ≤ 1_461

-- the first dates that are left, inside a span that ends on a real date
pub record PeriodsLeft (last : ℕ) (starts : List ℕ) : Type 0 where
  pub real : is_date (date_of last) ≡ true
  pub dates : FirstDates last starts
  pub few : FewDays last starts

-- the number of the day after a period: that of the next first date, or of the day after the span
abbrev pub number_after : ℕ → List ℕ → ℕ
number_after last [] = day_number (date_of last) + 1
number_after last (next ∷ starts) = day_number (date_of next)

-- the periods, each as its first day and the number of its days
abbrev pub periods_of : ℕ → List ℕ → List PeriodDays
periods_of last [] = []
periods_of last (start ∷ starts) = period_days (date_of start) (date_of (end_of last start starts)) ∷ periods_of last starts
