-- Document 02, (c): what holds of the differences that an accepted call leaves, by what expanding answers for its reading periods.
use Rattle.std.specs.Prelude.{◌≡◌, List, [], ◌∷◌, ◌++◌, map, ℕ, ◌-◌, ◌*◌, ◌≤◌, ◌<◌, ℤ, pos, ◌+ℤ◌, ◌-ℤ◌, neg_ℤ, length, get_or, drop}
use Rattle.lists.specs.Lists.{sum}
use Rattle.refusal.specs.Questions.{Verdict}
use Rattle.refusal.specs.Questions.{Pass}
use Rattle.refusal.specs.declared.CheckReport.{CheckReport}
use Rattle.refusal.specs.Questions.{reported}
use Rattle.calendar_dates.specs.declared.Date.{Date}
use Rattle.calendar_dates.specs.Dates.{date_of, next_day}
use Rattle.calendar_reading_periods.specs.ReadingPeriods.{readings_question, first_dates_question}
use Rattle.call_request.specs.Request.{Request, series, request_check}
use Rattle.call_expand.specs.Expanding.{totals, IsExpanded}
use Rattle.call_deliveries.specs.Deliveries.{Deliveries, whole_span, balanced_periods, difference, differences, deliveries_check, Delivers, Reports}

-- "adjacent": the first period begins on `begin`, each later one on the day after the one before ended, and the last one ends on `last`
unfoldable pub Adjacent : Date → ℕ → List Request → Type 0
Adjacent begin last [] = ⊥
Adjacent begin last (r ∷ []) = (date_of r.first ≡ begin) × (r.last ≡ last)
Adjacent begin last (r ∷ next ∷ periods) = (date_of r.first ≡ begin) × Adjacent (next_day (date_of r.last)) last (next ∷ periods)

-- each period is asked for with the call's own file, group, holidays and yearly use
unfoldable pub AskedOf : Deliveries → List Request → Type 0
AskedOf d [] = Unit {0}
AskedOf d (r ∷ periods) =
    (r.file ≡ d.file) × (r.group ≡ d.group) × (r.holidays ≡ d.holidays) × (r.yearly ≡ d.yearly) × AskedOf d periods

-- each period is expanded, the first one given a carry, each later one the carry that expanding answered for the one before
unfoldable pub HandedOn : ℕ → List Request → Type 0
HandedOn carry [] = Unit {0}
HandedOn carry (r ∷ periods) = (r.carry ≡ carry) × IsExpanded r × HandedOn (totals r).carry periods

-- the periods' series, one after the other
unfoldable pub joined_series : List Request → List ℕ
joined_series [] = []
joined_series (r ∷ periods) = series r ++ joined_series periods

-- the sum of signed numbers
unfoldable pub signed_sum : List ℤ → ℤ
signed_sum [] = pos 0
signed_sum (z ∷ zs) = z +ℤ signed_sum zs

-- what is claimed of an accepted call, which leaves `after` in its output
pub record Settled (d : Deliveries) (after : List ℤ) : Type 0 where
  pub left : after ≡ differences d ++ drop (length d.starts) d.output
  pub one_per_period : length (differences d) ≡ length d.starts
  -- "for each period metered energy minus balanced energy"
  pub each_difference : (i : ℕ) → i < length d.starts →
      get_or (differences d) i (pos 0) ≡ difference (get_or d.metered i 0) (get_or (map (λ r. (totals r).total) (balanced_periods d)) i 0)
  -- the periods are those of the first dates, "adjacent", from the span's first to its last date
  pub first_dates : map (λ r. r.first) (balanced_periods d) ≡ d.starts
  pub adjacent : Adjacent (date_of d.first) d.last (balanced_periods d)
  pub asked_of : AskedOf d (balanced_periods d)
  -- "The balanced energy is the series with the carry running through from 0.": the total of a period is what expanding answers for it
  pub handed_on : HandedOn 0 (balanced_periods d)
  -- and together the periods' series are that of the whole span, which expanding answers too
  pub series_join : joined_series (balanced_periods d) ≡ series (whole_span d)
  pub whole_expanded : IsExpanded (whole_span d)
  -- "The differences add up to 1,000 times all metered kWh less the total of the whole span's series."
  pub add_up : signed_sum (differences d) ≡ pos (1_000 * sum d.metered) -ℤ pos (totals (whole_span d)).total

-- "The result is signed: positive when the customer drew more."
pub record Signed (metered balanced : ℕ) : Type 0 where
  pub drew_more : balanced ≤ 1_000 * metered → difference metered balanced ≡ pos (1_000 * metered - balanced)
  pub drew_less : 1_000 * metered ≤ balanced → difference metered balanced ≡ neg_ℤ (pos (balanced - 1_000 * metered))

-- "Expanding's questions but 11": where expanding's questions pass for the whole span, and 17, 18 and 12 do, the call is accepted
abbrev pub Accepts : Deliveries → Type 0
Accepts d =
    request_check (whole_span d) ≡ Pass → readings_question (length d.starts) (length d.metered) ≡ Pass →
    first_dates_question d.first d.last d.starts ≡ Pass → length d.starts ≤ length d.output → deliveries_check d ≡ Pass

-- the theorem, of every call that keeps to the contract of the exported one and is accepted, its number being 0; the calls of
-- `call_deliveries::differences` are among these. Proved in proofs/Settled.antt.
unfoldable pub DeliveriesSettled : Type 0
DeliveriesSettled =
    ((d : Deliveries) (report : CheckReport) (after : List ℤ) → Reports d report after → report.number ≡ 0 → Settled d after)
    × ((d : Deliveries) (answer : Verdict) (after : List ℤ) → Delivers d answer after → Reports d (reported answer) after)
    × ((d : Deliveries) → Accepts d)
    × ((metered balanced : ℕ) → Signed metered balanced)
