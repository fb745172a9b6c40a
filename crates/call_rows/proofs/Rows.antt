-- The figures of a request's rows are what expanding answers: they add up to the totals, which one call answers, each day's row is what
-- a call for that day answers, and a refusal is the call's. Assumes nothing.
use Rattle.refusal.specs.Questions.{answered}
use Rattle.std.specs.Prelude.{Err}
use mathlib.Core.Path.{◌≡◌, sym, ◌∙◌, ap}
use mathlib.Core.Bool.{true}
use mathlib.Core.List.{List, [], ◌∷◌, ◌++◌, map-append, append-nil}
use Prim.Native.Nat.{ℕ, suc, ◌+◌, ◌-◌, ◌<◌}
use native.Mathlib.Omega.{arith}
use lib.ListN.{length, take, drop}
use lib.Seq.{drop-append_seam}
use Rattle.lists.specs.Lists.{sum}
use Rattle.refusal.specs.declared.Refusal.{Refusal}
use Rattle.refusal.specs.Questions.{Pass}
use Rattle.refusal.specs.Questions.{◌then◌, room_question}
use Rattle.calendar_dates.specs.declared.Date.{Date}
use Rattle.calendar_dates.specs.Dates.{date_of, number_of, is_date, day_number, days_later}
use Rattle.calendar_period.specs.Period.{days_of}
use Rattle.calendar_laws.specs.Dates.{DatesCounted}
use Rattle.calendar_laws.proofs.Dates.{dates-counted}
use Rattle.calendar_laws.proofs.Periods.{period-days}
use Rattle.carry.specs.declared.Totals.{Totals}
use Rattle.carry.specs.Carry.{figures, last_carry}
use Rattle.carry.specs.Energy.{Quarter, powers}
use Rattle.carry.proofs.Carry.{carry-append, carry-small, length-figures}
use Rattle.day_powers.specs.DayQuarters.{Basis, day_quarters}
use Rattle.series.specs.Series.{quarters_of_days}
use Rattle.series.specs.Inside.{comes_to}
use Rattle.series.proofs.Series.{quarters-add}
use Rattle.call_request.specs.Request.{Request, days_in, basis_of, quarters, series, request_check}
use Rattle.call_request.proofs.Sound.{Sound, sound, passes, series-length}
use Rattle.call_expand.specs.Expanding.{expand_check, totals, expansion, lent}
use Rattle.call_expand.proofs.Expanding.{expanded-in}
use Rattle.series_rows.specs.Rows.{Row, row_of, day_row, rows}
use Rattle.series_rows.specs.Joining.{RowsAddUp, RowsJoin}
use Rattle.series_rows.proofs.Rows.{length-rows}
use Rattle.series_rows.proofs.Joining.{rows-add-up, rows_join}
use Rattle.call_rows.specs.Rows.{rows_of, date_of_day, carry_after_days, on_day, DayAsExpanded, AsExpanded, RowsAsExpanded}

module _ (q : Request) (output : List ℕ) where
  refusal : (r : Refusal) → request_check q ≡ Err r → expansion (lent q output) ≡ Err r
  unfolding expansion expand_check
  refusal r h = ap (λ v. answered (v then room_question (length (series (lent q output))) (length output)) (totals (lent q output))) h

-- what the request's quarter hours come to are its totals
pub quarters-come-to : (q : Request) {t : Totals} → t ≡ comes_to q.yearly (powers (quarters q)) q.carry → t ≡ totals q
unfolding series
quarters-come-to q h = rw (length-figures q.yearly (powers (quarters q)) q.carry) h

-- the quarter hours of a period of one day
module _ (b : Basis) where
  only-day : (d : Date) → quarters_of_days (day_quarters b) 1 d ≡ day_quarters b d
  unfolding quarters_of_days
  only-day d = append-nil (day_quarters b d)

  first-to-last : (d : Date) → quarters_of_days (day_quarters b) (days_of d d) d ≡ day_quarters b d
  unfolding days_of
  first-to-last d =
      let one : day_number d + 1 - day_number d ≡ 1 = omega arith in
      rw one (only-day d)

  -- the row of day k, and the carry that it leaves
  module _ (yearly k : ℕ) (d : Date) (carry : ℕ) where
    abbrev begun : ℕ
    begun = last_carry yearly (powers (quarters_of_days (day_quarters b) k d)) carry

    row_at : (later : ℕ) → take 1 (drop k (rows b yearly (k + suc later) d carry)) ≡ day_row b yearly (days_later k d) begun ∷ []
    unfolding RowsJoin rows
    row_at later =
        let before = rows b yearly k d carry in
        let rest = rows b yearly (suc later) (days_later k d) begun in
        ap (λ (all : List Row). take 1 (drop k all)) (rows_join b yearly k (suc later) d carry)
        ∙ ap (λ (n : ℕ). take 1 (drop n (before ++ rest))) (sym (length-rows b yearly k d carry))
        ∙ ap (take 1) (drop-append_seam before rest)

    next-carry : last_carry yearly (powers (day_quarters b (days_later k d))) begun ≡ last_carry yearly (powers (quarters_of_days (day_quarters b) (k + 1) d)) carry
    next-carry =
        let first = quarters_of_days (day_quarters b) k d in
        let day = day_quarters b (days_later k d) in
        let all : quarters_of_days (day_quarters b) (k + 1) d ≡ first ++ day = quarters-add (day_quarters b) k 1 d ∙ ap (λ (run : List Quarter). first ++ run) (only-day (days_later k d)) in
        rw (all, map-append (λ (x : Quarter). x.power) first day, carry-append yearly (powers first) (powers day) carry)

-- day k of an accepted request
module _ (q : Request) (k : ℕ) (passed : request_check q ≡ Pass) (inside : k < days_in q) where
  real : is_date (date_of_day q k) ≡ true
  real =
      let p = (sound q passed).period in
      (period-days (date_of q.first) (date_of q.last) p.dates-first p.dates-last p.ordered).dates k inside

  -- its number is its date's
  own-date : date_of (number_of (date_of_day q k)) ≡ date_of_day q k
  unfolding DatesCounted
  own-date = (dates-counted.0 (date_of_day q k) real).numbered

  -- its quarter hours are the day's
  own-quarters : quarters (on_day q k) ≡ day_quarters (basis_of q) (date_of_day q k)
  own-quarters =
      ap (λ (e : Date). quarters_of_days (day_quarters (basis_of q)) (days_of e e) e) own-date ∙ first-to-last (basis_of q) (date_of_day q k)

  day-row : take 1 (drop k (rows_of q)) ≡ row_of (date_of_day q k) (totals (on_day q k)).count (totals (on_day q k)).total ∷ []
  unfolding series
  day-row =
      let later = days_in q - k - 1 in
      let split : days_in q ≡ k + suc later = omega arith in
      ap (λ (n : ℕ). take 1 (drop k (rows (basis_of q) q.yearly n (date_of q.first) q.carry))) split
      ∙ row_at (basis_of q) q.yearly k (date_of q.first) q.carry later
      ∙ ap (λ (run : List Quarter). row_of (date_of_day q k) (length (figures q.yearly (powers run) (carry_after_days q k))) (sum (figures q.yearly (powers run) (carry_after_days q k))) ∷ []) (sym own-quarters)

  day-sound : Sound (on_day q k)
  unfolding days_of
  day-sound =
      let s = sound q passed in
      let date = ap is_date own-date ∙ real in
      record {
        file = s.file;
        period = record { dates-first = date; dates-last = date; ordered = omega arith; short = omega arith };
        holidays = s.holidays;
        yearly = s.yearly;
        carry = carry-small q.yearly q.carry (powers (quarters_of_days (day_quarters (basis_of q)) k (date_of q.first))) s.carry;
      }

  day-carry : (totals (on_day q k)).carry ≡ carry_after_days q (k + 1)
  day-carry =
      ap (λ (run : List Quarter). last_carry q.yearly (powers run) (carry_after_days q k)) own-quarters
      ∙ next-carry (basis_of q) q.yearly k (date_of q.first) q.carry

  day-as-expanded : DayAsExpanded q k
  day-as-expanded = record { row = day-row; answer = expanded-in (on_day q k) (passes (on_day q k) day-sound); carry = day-carry }

module _ (q : Request) where
  one-day : days_in q ≡ 1 → rows_of q ≡ row_of (date_of q.first) (totals q).count (totals q).total ∷ []
  unfolding rows series
  one-day one = rw (one, only-day (basis_of q) (date_of q.first))

  as-expanded : AsExpanded q
  unfolding RowsAddUp series
  as-expanded =
      let (counts, energy) = rows-add-up (basis_of q) q.yearly (days_in q) (date_of q.first) q.carry in
      record {
        days = length-rows (basis_of q) q.yearly (days_in q) (date_of q.first) q.carry;
        counts = counts ∙ sym (series-length q);
        watt_hours = energy;
        whole = expanded-in q;
        one_day = one-day;
        day = day-as-expanded q;
        refused = refusal q;
      }

pub rows-as-expanded : RowsAsExpanded
unfolding RowsAsExpanded
rows-as-expanded = as-expanded
