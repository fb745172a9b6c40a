-- "A figure fits 32 bits, a total 64.": no power is above 40,000, so no figure is above the yearly use by more than the carry. And
-- no series is longer than 1,461 days of 100.
-- Assumes nothing.
use mathlib.Core.List.{List, [], ◌∷◌}
use Prim.Native.Nat.{ℕ, ◌+◌, ◌*◌, ◌%◌, ◌^◌, ◌≤◌, ◌<◌}
use native.Mathlib.Nat.{mul-le-mul}
use native.Mathlib.Omega.{arith}
use Rattle.lists.specs.Lists.{Each}
use Rattle.calendar_dates.specs.Dates.{date_of}
use Rattle.calendar_dates.specs.Dates.{AllDates}
use Rattle.calendar_period.proofs.Periods.{values-small, all-between}
use Rattle.file_group.proofs.Group.{check-passed}
use Rattle.carry.specs.Carry.{largest_use, largest_carry, figures}
use Rattle.carry.specs.Energy.{powers}
use Rattle.series.specs.Inside.{GroupValues}
use Rattle.series.proofs.DayByDay.{Small, all_small, Fits, whole-fits}
use Rattle.call_request.specs.Request.{Request, days_in, basis_of, quarters, series}
use Rattle.call_request.proofs.Sound.{Sound, sound, entries-needed}
use Rattle.call_open.proofs.Given.{table-values}
use Rattle.call_request_laws.specs.Fits.{FiguresFit, LongestSeries, LargestTotal}

-- small powers make small figures
figures-small : (yearly : ℕ) (ps : List ℕ) (carry : ℕ) → yearly ≤ largest_use → carry ≤ largest_carry → Small ps → Each (λ figure. figure < 2 ^ 32) (figures yearly ps carry)
unfolding figures
figures-small yearly [] carry a b s = tt
figures-small yearly (p ∷ ps) carry a b s =
    let product : p * yearly ≤ 40_000 * 10 ^ 9 = mul-le-mul s.0 a in
    (omega arith, figures-small yearly ps ((p * yearly + carry) % 40_000) a (omega arith) s.1)

-- what an accepted request's figures come to
accepted : (q : Request) → Sound q → GroupValues (basis_of q).values × AllDates (days_in q) (date_of q.first) × Fits q.yearly q.carry (powers (quarters q))
accepted q s =
    let p = s.period in
    let values = table-values q.file q.group (check-passed q.file q.group s.file) in
    let real = all-between (date_of q.first) (date_of q.last) p.dates-first p.dates-last p.ordered in
    (values, real, whole-fits (basis_of q) values (days_in q) (date_of q.first) (record { yearly_small = s.yearly; carry_small = s.carry }) p.short real)

pub figures-fit : FiguresFit
unfolding FiguresFit series
figures-fit q h =
    let s = sound q h in
    let (values, real, fits) = accepted q s in
    let most = fits.most in (
      figures-small q.yearly (powers (quarters q)) q.carry s.yearly s.carry (all_small (basis_of q) values (days_in q) (date_of q.first) real),
      omega arith,
    )

pub longest-series : LongestSeries
unfolding LongestSeries
longest-series q h = omega (arith, entries-needed q, values-small (days_in q) (date_of q.first), (sound q h).period.short)

pub largest-total : LargestTotal
unfolding LargestTotal series
largest-total q h =
    let (values, real, fits) = accepted q (sound q h) in
    fits.most
