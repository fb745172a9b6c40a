-- The theorems of specs/Series.antt. Assumes nothing.
use mathlib.Core.Path.{sym, ◌∙◌, ap}
use native.Mathlib.Omega.{arith}
use lib.IntN.{ℤ, pos, nat_abs}
use Rattle.calendar_dates.specs.Dates.{day_of_year}
use Rattle.calendar_dates.proofs.Dates.{leap-small, day-of-year-range}
use Rattle.dynamisation.proofs.Dynamisation.{whole}
use Rattle.series.proofs.Series.{quarters-add, length-quarters}
use Rattle.series_laws.specs.Series.{PeriodsJoin, CountedSeries, ExactX}

pub periods-join : PeriodsJoin
unfolding PeriodsJoin
periods-join = quarters-add

pub counted-series : CountedSeries
unfolding CountedSeries
counted-series = length-quarters

pub exact-x : ExactX
unfolding ExactX
exact-x group d h =
    let range = day-of-year-range d h in
    let w = whole group (day_of_year d) (range.0, omega (arith, range.1, leap-small d.year)) in
    w.exact ∙ ap (λ (z : ℤ). pos (nat_abs z)) (sym w.exact)
