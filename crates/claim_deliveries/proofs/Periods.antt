-- The periods of a span, one after the other: each is expanded, given the carry of the one before, and together they are the span. By
-- induction over the first dates. Assumes nothing.
use mathlib.Core.Path.{◌≡◌, refl, sym, ◌∙◌, ap, subst}
use mathlib.Core.List.{List, [], ◌∷◌, ◌++◌, map, append-nil, map-append}
use Prim.Native.Nat.{ℕ, ◌+◌, ◌≤◌, ◌<◌}
use native.Mathlib.Omega.{arith}
use lib.ListN.{length, get_or}
use Rattle.calendar_dates.specs.Dates.{date_of, day_number}
use Rattle.calendar_period.specs.Period.{days_of}
use Rattle.calendar_reading_periods.specs.ReadingPeriods.{ReadingPeriod, end_of, reading_periods}
use Rattle.calendar_reading_periods.specs.Inside.{FirstDates}
use Rattle.calendar_reading_periods.proofs.ReadingPeriods.{ends, next-begins, day-not-after}
use Rattle.carry.specs.Carry.{largest_carry, figures}
use Rattle.carry.specs.Energy.{Quarter, powers}
use Rattle.carry.proofs.Carry.{figures-append, carry-small}
use Rattle.day_powers.specs.DayQuarters.{day_quarters}
use Rattle.series.specs.Series.{quarters_of_days}
use Rattle.series_laws.proofs.Adjoining.{two-periods}
use Rattle.call_request.specs.Request.{Request, basis_of, quarters, series}
use Rattle.call_request.proofs.Sound.{Sound, passes}
use Rattle.call_expand.specs.Expanding.{totals, IsExpanded}
use Rattle.call_expand.proofs.Expanding.{expanded-in}
use Rattle.call_deliveries.specs.Deliveries.{of_period, carried_through}
use Rattle.claim_deliveries.specs.Settled.{Adjacent, HandedOn, joined_series}

-- a request whose questions pass is expanded
pub expanded : (r : Request) → Sound r → IsExpanded r
expanded r s = expanded-in r (passes r s)

module _ (q : Request) (whole : Sound q) where
  -- the requests for the periods of some first dates
  abbrev periods_from : List ℕ → ℕ → List Request
  periods_from starts carry = carried_through q (reading_periods q.last starts) carry

  -- the quarter hours from a first date to the span's end
  abbrev quarters_from : ℕ → List Quarter
  quarters_from start = quarters_of_days (day_quarters (basis_of q)) (days_of (date_of start) (date_of q.last)) (date_of start)

  record From (start : ℕ) (rest : List ℕ) (carry : ℕ) : Type 0 where
    first_dates : map (λ r. r.first) (periods_from (start ∷ rest) carry) ≡ start ∷ rest
    adjacent : Adjacent (date_of start) q.last (periods_from (start ∷ rest) carry)
    handed_on : HandedOn carry (periods_from (start ∷ rest) carry)
    joins : joined_series (periods_from (start ∷ rest) carry) ≡ figures q.yearly (powers (quarters_from start)) carry

  -- fewer days are left from a later date on
  fewer : (start next : ℕ) {n : ℕ} → days_of (date_of start) (date_of q.last) ≤ 1_461 → n + 1 ≡ day_number (date_of next) → day_number (date_of start) ≤ n →
      days_of (date_of next) (date_of q.last) ≤ 1_461
  unfolding days_of
  fewer start next few e h = omega arith

  -- the request for one period
  abbrev period : ℕ → List ℕ → ReadingPeriod
  period start rest = record { first = start; last = end_of q.last start rest }

  period-sound : (start : ℕ) (rest : List ℕ) (carry : ℕ) → FirstDates q.last (start ∷ rest) → days_of (date_of start) (date_of q.last) ≤ 1_461 → carry ≤ largest_carry →
      Sound (of_period q (period start rest) carry)
  unfolding days_of
  period-sound start rest carry f few small =
      let end = ends q.last start rest whole.period.dates-last f in
      record {
        file = whole.file;
        period = record { dates-first = f.0; dates-last = end.real; ordered = end.ordered; short = omega (arith, end.before, end.inside) };
        holidays = whole.holidays;
        yearly = whole.yearly;
        carry = small;
      }

  from : (start : ℕ) (rest : List ℕ) (carry : ℕ) → FirstDates q.last (start ∷ rest) → days_of (date_of start) (date_of q.last) ≤ 1_461 → carry ≤ largest_carry →
      From start rest carry
  unfolding carried_through reading_periods end_of Adjacent HandedOn joined_series series
  from start [] carry f few small =
      record {
        first_dates = refl;
        adjacent = (refl, refl);
        handed_on = (refl, expanded _ (period-sound start [] carry f few small), tt);
        joins = append-nil _;
      }
  from start (next ∷ rest) carry f few small =
      let r = of_period q (period start (next ∷ rest)) carry in
      let left = (totals r).carry in
      let end = ends q.last start (next ∷ rest) whole.period.dates-last f in
      let begins = next-begins q.last start next rest f in
      let later = day-not-after next q.last f.3.0 whole.period.dates-last f.3.1 in
      let behind = from next rest left f.3 (fewer start next few end.before end.ordered) (carry-small q.yearly carry (powers (quarters r)) small) in
      record {
        first_dates = ap (λ (dates : List ℕ). start ∷ dates) behind.first_dates;
        adjacent = (refl, rw begins behind.adjacent);
        handed_on = (refl, expanded r (period-sound start (next ∷ rest) carry f few small), behind.handed_on);
        joins =
            ap (λ (xs : List ℕ). series r ++ xs) behind.joins
            ∙ sym (figures-append q.yearly (powers (quarters r)) (powers (quarters_from next)) carry)
            ∙ ap (λ (xs : List ℕ). figures q.yearly xs carry) (sym (map-append _ (quarters r) (quarters_from next)))
            ∙ ap (λ (qs : List Quarter). figures q.yearly (powers qs) carry)
            (rw begins at
            (two-periods (day_quarters (basis_of q)) (date_of start) (date_of (end_of q.last start (next ∷ rest))) (date_of q.last) f.0 end.real end.ordered
            (rw begins later)));
      }

  -- all of them, from the span's first date on
  pub record All (starts : List ℕ) : Type 0 where
    pub first_dates : map (λ r. r.first) (periods_from starts q.carry) ≡ starts
    pub adjacent : Adjacent (date_of q.first) q.last (periods_from starts q.carry)
    pub handed_on : HandedOn q.carry (periods_from starts q.carry)
    pub joins : joined_series (periods_from starts q.carry) ≡ series q

  pub all : (starts : List ℕ) → 0 < length starts → get_or starts 0 0 ≡ q.first → FirstDates q.last starts → All starts
  unfolding series
  all [] h e f = absurd (omega arith)
  all (start ∷ rest) h e f =
      let a = from start rest q.carry f (rw e whole.period.short) whole.carry in
      record {
        first_dates = a.first_dates;
        adjacent = subst (λ (first : ℕ). Adjacent (date_of first) q.last (periods_from (start ∷ rest) q.carry)) e a.adjacent;
        handed_on = a.handed_on;
        joins = a.joins ∙ ap (λ (first : ℕ). figures q.yearly (powers (quarters_from first)) q.carry) e;
      }
