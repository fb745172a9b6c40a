-- What holds of a period's quarter hours.
use Rattle.std.specs.Prelude.{◌≡◌, true, List, ◌++◌, ℕ, ◌+◌, pos, nat_abs, length}
use Rattle.calendar_dates.specs.declared.Date.{Date}
use Rattle.calendar_dates.specs.Dates.{is_date, day_of_year, days_later}
use Rattle.calendar_period.specs.Period.{value_count_of_days}
use Rattle.dynamisation.specs.Dynamisation.{X}
use Rattle.carry.specs.Energy.{Quarter}
use Rattle.day_powers.specs.DayQuarters.{Basis, day_quarters}
use Rattle.series.specs.Series.{quarters_of_days}

-- Three theorems, proved in proofs/Series.antt.

-- two periods, the second from the day after the first, are one, whichever quarter hours a day has
unfoldable pub PeriodsJoin : Type 0
PeriodsJoin =
    (day : Date → List Quarter) (n m : ℕ) (d : Date) →
    quarters_of_days day (n + m) d ≡ quarters_of_days day n d ++ quarters_of_days day m (days_later n d)

-- a period has as many quarter hours as its days have values
unfoldable pub CountedSeries : Type 0
CountedSeries =
    (b : Basis) (n : ℕ) (d : Date) → length b.values ≡ 864 →
    length (quarters_of_days (day_quarters b) n d) ≡ value_count_of_days n d

-- the theorem: X of a date's day is the whole number that its quarter hours have.
unfoldable pub ExactX : Type 0
ExactX = (group : ℕ) (d : Date) → is_date d ≡ true → X group (day_of_year d) ≡ pos (nat_abs (X group (day_of_year d)))
