-- A day's quarter hours: how many they are, their powers after the clock change, none above 40,000, and what their roundings cost.
-- Assumes nothing.
use mathlib.Core.Path.{◌≡◌, refl, ◌∙◌, ap}
use mathlib.Core.List.{List, map, map-map}
use Prim.Native.Nat.{ℕ, suc, ◌*◌, ◌≤◌}
use native.Mathlib.Omega.{arith}
use native.Mathlib.Nat.{mul-le-mul, mul-le-mul_left, le_of_lt}
use lib.IntN.{ℤ, nat_abs}
use lib.ListN.{length, take, drop, get_or, length-map}
use lib.Seq.{get_or-drop}
use Rattle.lists.specs.Lists.{Each}
use Rattle.lists.proofs.Parts.{map-parts, take-small}
use Rattle.lists.proofs.Members.{each_map, each_append, each_take, each-drop}
use Rattle.calendar_dates.specs.declared.Date.{Date}
use Rattle.calendar_dates.specs.Dates.{day_of_year}
use Rattle.calendar_days.specs.declared.Clock.{Clock}
use Rattle.calendar_days.specs.declared.Clock.TheVariants.{Unchanged, Forward, Back}
use Rattle.calendar_days.specs.Days.{season, day_type, clock, positions, value_count_under}
use Rattle.calendar_laws.specs.Positions.{CountedPositions}
use Rattle.calendar_laws.proofs.Positions.{counted-positions}
use Rattle.dynamisation.specs.Dynamisation.{X, F, Q}
use Rattle.dynamisation_laws.specs.Rounding.{Roundings}
use Rattle.dynamisation_laws.proofs.Rounding.{roundings}
use Rattle.carry.specs.Energy.{Quarter, powers, Rounded, Unrounded}
use Rattle.day_powers.specs.DayTable.{day_table_index, day_table_at, day_values}
use Rattle.day_powers.specs.Inside.{powers_by}
use Rattle.day_powers.specs.DayQuarters.{Basis, basis, quarter, day_quarters}
use Rattle.day_powers.proofs.DayTable.{places, length-table, get_or-powers}

module _ {A : Type 0} (property : A → Type 0) where
  pub each-position : (clock : Clock) (day : List A) → Each property day → Each property (positions clock day)
  unfolding positions
  each-position Unchanged day a = a
  each-position Forward day a = each_append property (take 8 day) (drop 12 day) (each_take property 8 day a) (each-drop property 12 day a)
  each-position Back day a = each_append property (take 12 day) (drop 8 day) (each_take property 12 day a) (each-drop property 8 day a)

-- `map` of a day after the clock change
module _ {A B : Type 0} (f : A → B) where
  map-positions : (c : Clock) (day : List A) → map f (positions c day) ≡ positions c (map f day)
  unfolding positions
  map-positions Unchanged day = refl
  map-positions Forward day = map-parts f 8 12 day
  map-positions Back day = map-parts f 12 8 day

-- no power of a table is above 40,000, where no value and no factor is above 20,000
pub powers-small : (values : List ℕ) (index f : ℕ) → ((i : ℕ) → get_or values i 0 ≤ 20_000) → f ≤ 20_000 →
    (i : ℕ) → get_or (powers_by f (day_table_at index values)) i 0 ≤ 40_000
unfolding Q
powers-small values index f h k i =
    let p = get_or (day_table_at index values) i 0 in
    let small : p ≤ 20_000 = take-small 96 20_000 (drop (index * 96) values) (λ j. rw get_or-drop (h _)) i in
    let product : p * f ≤ 20_000 * 20_000 = mul-le-mul small k in
    omega (arith, get_or-powers f (day_table_at index values) i)

pub length-day-values : (values holidays : List ℕ) (d : Date) → length values ≡ 864 → length (day_values values holidays d) ≡ 96
unfolding day_values
length-day-values values holidays d h =
    let both = places (season d) (day_type d holidays) in
    length-table (day_table_index (season d) (day_type d holidays)) values (omega arith)

module _ (b : Basis) (d : Date) where
  pub length-day-quarters : length b.values ≡ 864 → length (day_quarters b d) ≡ value_count_under (clock d)
  unfolding day_quarters CountedPositions
  length-day-quarters h =
      counted-positions Quarter (clock d) _ (length-map (day_values b.values b.holidays d) _ ∙ length-day-values b.values b.holidays d h)

  pub day-powers-positions : powers (day_quarters b d) ≡ positions (clock d) (powers_by (F b.group (day_of_year d)) (day_values b.values b.holidays d))
  unfolding day_quarters
  day-powers-positions =
      map-positions (λ q. q.power) (clock d) _
      ∙ ap (positions (clock d)) (map-map (λ q. q.power) (quarter b.group (day_of_year d)) (day_values b.values b.holidays d))

-- the roundings of a quarter hour: its own, and that of F times P
rounded : (group t p : ℕ) → 1 ≤ t → t ≤ 366 → Rounded (quarter group t p)
unfolding Roundings
rounded group t p h k =
    let (x, factor) = roundings.0 group t h k in
    let power = roundings.1 p (F group t) in
    let exact : p * nat_abs (X group t) ≡ p * x = ap (λ (z : ℤ). p * nat_abs z) factor.exact in
    record {
      above = omega (arith, mul-le-mul_left p factor.above);
      below = omega (arith, mul-le-mul_left p (le_of_lt factor.below));
    }

undynamised : (group t p : ℕ) → Unrounded (quarter (suc group) t p)
unfolding Roundings X
undynamised group t p = omega (arith, (roundings.2 group t p).power)

each-quarter : (property : Quarter → Type 0) (b : Basis) (d : Date) →
    ((p : ℕ) → property (quarter b.group (day_of_year d) p)) → Each property (day_quarters b d)
unfolding day_quarters
each-quarter property b d h =
    each-position property (clock d) _ (each_map property (quarter b.group (day_of_year d)) (day_values b.values b.holidays d) h)

module _ (b : Basis) (d : Date) where
  pub day-rounded : 1 ≤ day_of_year d → day_of_year d ≤ 366 → Each Rounded (day_quarters b d)
  day-rounded h k = each-quarter Rounded b d (λ p. rounded b.group (day_of_year d) p h k)

pub day-undynamised : (values : List ℕ) (group : ℕ) (holidays : List ℕ) (d : Date) → Each Unrounded (day_quarters (basis values (suc group) holidays) d)
day-undynamised values group holidays d =
    each-quarter Unrounded (basis values (suc group) holidays) d (undynamised group (day_of_year d))
