-- One day: its table and its powers, none above 40,000, and what they come to after the clock change.
-- Assumes nothing.
use mathlib.Core.Path.{◌≡◌, sym, ◌∙◌}
use mathlib.Core.Bool.{true}
use mathlib.Core.List.{List}
use Prim.Native.Nat.{ℕ, ◌≤◌}
use native.Mathlib.Omega.{arith}
use lib.ListN.{length, get_or, length-map}
use Rattle.calendar_dates.specs.declared.Date.{Date}
use Rattle.calendar_dates.specs.Dates.{is_date, day_of_year}
use Rattle.calendar_dates.proofs.Dates.{leap-small, day-of-year-range}
use Rattle.calendar_days.specs.declared.DayKind.{DayKind}
use Rattle.calendar_days.specs.declared.Clock.{Clock}
use Rattle.calendar_days.specs.Days.{day_kind, clock, positions, value_count_under}
use Rattle.dynamisation.specs.Dynamisation.{F}
use Rattle.dynamisation.proofs.Days.{Day}
use Rattle.dynamisation.proofs.Dynamisation.{F-small}
use Rattle.carry.specs.Energy.{powers}
use Rattle.carry_quotients.specs.declared.Carried.{Carried}
use Rattle.carry_day.specs.Inside.{DayCarried}
use Rattle.day_powers.specs.DayTable.{day_table_of, day_table_at, day_values}
use Rattle.day_powers.specs.Inside.{powers_by}
use Rattle.day_powers.specs.DayQuarters.{Basis, day_quarters}
use Rattle.day_powers.proofs.DayQuarters.{powers-small, length-day-quarters, day-powers-positions}
use Rattle.series.specs.Inside.{GroupValues, Filled}

-- the t of a date
in-year : (d : Date) → is_date d ≡ true → Day (day_of_year d)
in-year d h =
    let range = day-of-year-range d h in
    (range.0, omega (arith, leap-small d.year))

-- a day's powers, before the clock change and after it
abbrev pub powers_before : Basis → Date → List ℕ
powers_before b d = powers_by (F b.group (day_of_year d)) (day_values b.values b.holidays d)

-- with the day's own kind
pub own-kind : (b : Basis) (d : Date) {kind : DayKind} {all : List ℕ} → kind ≡ day_kind d b.holidays →
    all ≡ powers_by (F b.group (day_of_year d)) (day_table_at (day_table_of kind) b.values) → all ≡ powers_before b d
unfolding day_values
own-kind b d k e = e ∙ rw k

abbrev pub day_powers : Basis → Date → List ℕ
day_powers b d = powers (day_quarters b d)

module _ (b : Basis) (sound : GroupValues b.values) (d : Date) where
  pub day-powers-small : is_date d ≡ true → (i : ℕ) → get_or (powers_before b d) i 0 ≤ 40_000
  unfolding day_values
  day-powers-small h =
      let t = in-year d h in
      powers-small b.values (day_table_of (day_kind d b.holidays)) _ sound.small (F-small b.group (day_of_year d) t)

  -- with the day's powers and its clock
  module _ {all : List ℕ} {c : Clock} (e : all ≡ powers_before b d) (k : c ≡ clock d) where
    pub changed : positions c all ≡ day_powers b d
    changed = rw (e, k) (sym (day-powers-positions b d))

    pub counted : length (day_powers b d) ≡ value_count_under c
    counted = rw k (length-map (day_quarters b d) _ ∙ length-day-quarters b d sound.whole)

    pub day-filled : {yearly carry : ℕ} {out after : List ℕ} {r : Carried} {n : ℕ} → DayCarried all c yearly carry out r after → n ≡ value_count_under c →
        Filled yearly (day_powers b d) carry out (record { count = n; total = r.total; carry = r.carry }) after
    day-filled did same =
        let n = counted in
        let run = changed in
        record {
          stored = rw (n, ← run) did.figures_stored;
          totals = rw (same, ← n, did.total_is, did.carry_is, run);
        }
