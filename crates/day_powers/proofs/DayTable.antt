-- A day table: which of the nine it is, that it has 96 values, and each of their powers.
-- Assumes nothing.
use mathlib.Core.Path.{◌≡◌, ◌∙◌, ap}
use mathlib.Core.List.{List}
use Prim.Native.Nat.{ℕ, ◌+◌, ◌*◌, ◌≤◌, ◌<◌}
use native.Mathlib.Omega.{arith}
use native.Mathlib.Numerals.{add-one}
use lib.ListN.{length, take, drop, get_or, set, length-take, length-drop, length-map, get_or-map}
use lib.Seq.{get_or-take, get_or-drop, take_all, take-suc, take-suc-set}
use Rattle.calendar_days.specs.declared.Season.{Season}
use Rattle.calendar_days.specs.declared.Season.TheVariants.{Winter, Summer, Transition}
use Rattle.calendar_days.specs.declared.DayType.{DayType}
use Rattle.calendar_days.specs.declared.DayType.TheVariants.{Weekday, Saturday, Sunday}
use Rattle.dynamisation.specs.Dynamisation.{Q}
use Rattle.day_powers.specs.DayTable.{season_place, day_type_place, day_table_at}
use Rattle.day_powers.specs.Inside.{DayTableInside, powers_by}

-- both places are at most 2
season-place : (s : Season) → season_place s ≤ 2
season-place Winter = omega arith
season-place Summer = omega arith
season-place Transition = omega arith

day-type-place : (d : DayType) → day_type_place d ≤ 2
day-type-place Weekday = omega arith
day-type-place Saturday = omega arith
day-type-place Sunday = omega arith

pub places : (s : Season) (d : DayType) → (season_place s ≤ 2) × (day_type_place d ≤ 2)
places s d = (season-place s, day-type-place d)

pub length-table : (index : ℕ) (values : List ℕ) → (index + 1) * 96 ≤ length values → length (day_table_at index values) ≡ 96
length-table index values h = simp (length-take, length-drop) (omega arith)

-- each power; behind the last one both sides are 0
pub get_or-powers : (f : ℕ) (values : List ℕ) (i : ℕ) → get_or (powers_by f values) i 0 ≡ Q (get_or values i 0) f
unfolding Q
get_or-powers f values i =
    let none : 0 ≡ Q 0 f = omega arith in
    ap (get_or (powers_by f values) i) none ∙ get_or-map (λ p. Q p f) values i 0

module _ {index : ℕ} {values : List ℕ} (t : DayTableInside index values) where
  pub length-powers : (f : ℕ) → length (powers_by f (day_table_at index values)) ≡ 96
  length-powers f = length-map (day_table_at index values) (λ p. Q p f) ∙ length-table index values t.inside

  -- the power of position i
  pub power_at : (i : ℕ) {at : ℕ} → i < 96 → at ≡ index * 96 + i → (f : ℕ) → get_or (powers_by f (day_table_at index values)) i 0 ≡ Q (get_or values at 0) f
  power_at i h e f = rw (get_or-powers, get_or-take 96 (drop (index * 96) values) i 0 h, get_or-drop, e)

-- the powers stored so far are those wanted: one more, and all
pub one_more : (i : ℕ) (powers want : List ℕ) {q : ℕ} → i < length powers → i < length want → get_or want i 0 ≡ q → take i powers ≡ take i want →
    take (i + 1) (set powers i q) ≡ take (i + 1) want
one_more i powers want h k e so = rw (add-one, take-suc-set powers i, take-suc want i 0, so, e)

pub all-stored : (i : ℕ) (powers want : List ℕ) → length powers ≤ i → length want ≤ i → take i powers ≡ take i want → powers ≡ want
all-stored i powers want h k so = rw (take_all i powers, take_all i want) at so
