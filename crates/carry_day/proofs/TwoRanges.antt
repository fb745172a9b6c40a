-- Two ranges, one after the other, are the day after the clock change. Assumes nothing.
use Rattle.std.proofs.Common.{◌≡◌, sym, ◌∙◌, List, [], ◌∷◌, ◌++◌, ℕ, zero, suc, ◌+◌, ◌-◌, ◌≤◌, length, get_or, take, drop, arith}
use Rattle.std.proofs.Math.Seq.{get_or-drop}
use borrow.Rule.Slice.PartMut.{put_mid}
use Rattle.lists.proofs.Parts.{take-small}
use Rattle.lists.proofs.Stores.{stored-behind}
use Rattle.calendar_days.specs.declared.Clock.{Clock}
use Rattle.calendar_days.specs.declared.Clock.TheVariants.{Unchanged, Forward, Back}
use Rattle.calendar_days.specs.Days.{positions, value_count_under}
use Rattle.carry.specs.Carry.{figures, RunsJoin}
use Rattle.carry.proofs.Carry.{figures-append, carry-append, length-figures, carry-small, runs-join}
use Rattle.carry_quotients.specs.declared.Carried.{Carried}
use Rattle.carry_quotients.specs.Inside.{SmallPowers, RangeCarried}
use Rattle.carry_day.specs.Inside.{DayCarried}

-- no power of a range is above 40,000 where none of the day's is
drop-small : (n limit : ℕ) (xs : List ℕ) → ((i : ℕ) → get_or xs i 0 ≤ limit) → (i : ℕ) → get_or (drop n xs) i 0 ≤ limit
drop-small n limit xs h i = rw get_or-drop (h _)

append-small : (limit : ℕ) (xs ys : List ℕ) → ((i : ℕ) → get_or xs i 0 ≤ limit) → ((i : ℕ) → get_or ys i 0 ≤ limit) → (i : ℕ) → get_or (xs ++ ys) i 0 ≤ limit
append-small limit [] ys h k i = k i
append-small limit (x ∷ xs) ys h k zero = h 0
append-small limit (x ∷ xs) ys h k (suc i) = append-small limit xs ys (λ j. h (suc j)) k i

pub positions-small : (clock : Clock) (powers : List ℕ) → ((i : ℕ) → get_or powers i 0 ≤ 40_000) → (i : ℕ) → get_or (positions clock powers) i 0 ≤ 40_000
unfolding positions
positions-small Unchanged powers h = h
positions-small Forward powers h = append-small 40_000 (take 8 powers) (drop 12 powers) (take-small 8 40_000 powers h) (drop-small 12 40_000 powers h)
positions-small Back powers h = append-small 40_000 (take 12 powers) (drop 8 powers) (take-small 12 40_000 powers h) (drop-small 8 40_000 powers h)

second-small : (limit : ℕ) (xs ys : List ℕ) → ((i : ℕ) → get_or (xs ++ ys) i 0 ≤ limit) → (i : ℕ) → get_or ys i 0 ≤ limit
second-small limit [] ys h i = h i
second-small limit (x ∷ xs) ys h i = second-small limit xs ys (λ j. h (suc j)) i

-- the day's two ranges
module _ (powers one two : List ℕ) (clock : Clock) {yearly carry : ℕ} (joined : one ++ two ≡ positions clock powers) where
  -- the second begins with the carry that the first leaves
  pub second-range : {before middle : List ℕ} {first : Carried} → SmallPowers powers yearly carry → RangeCarried one yearly carry before first middle → SmallPowers two yearly first.carry
  second-range small f =
      record {
        small = second-small 40_000 one two (rw joined (positions-small clock powers small.small));
        yearly_small = small.yearly_small;
        in_range = omega (arith, f.carry_is, carry-small yearly carry one small.in_range);
      }

  pub day : {before middle part : List ℕ} {first second : Carried} → length one + length two ≡ value_count_under clock → value_count_under clock ≤ length before →
      RangeCarried one yearly carry before first middle →
      RangeCarried two yearly first.carry (take (length middle - length one) (drop (length one) middle)) second part →
      DayCarried powers clock yearly carry before (record { total = first.total + second.total; carry = second.carry })
      (put_mid (length one) (length middle - length one) middle part)
  unfolding RunsJoin
  day {before} {middle} {first = first} {second} count room f g =
      let stored = stored-behind (figures yearly one carry) (figures yearly two first.carry) before (length one) (length two)
      (length-figures yearly one carry) (length-figures yearly two first.carry) (omega arith) f.figures_stored g.figures_stored in
      record {
        figures_stored = rw (← joined, ← count, figures-append yearly one two carry, ← f.carry_is) stored;
        total_is = rw (← joined) (omega (arith, (runs-join.0 yearly carry one two).totals_add, f.total_is, rw f.carry_is at g.total_is));
        carry_is = rw (← joined) (rw f.carry_is at g.carry_is ∙ sym (carry-append yearly one two carry));
      }

-- a day without a clock change is one range
pub unchanged : {powers : List ℕ} {yearly carry : ℕ} {before after : List ℕ} {r : Carried} → length powers ≡ 96 →
    RangeCarried powers yearly carry before r after → DayCarried powers Unchanged yearly carry before r after
unfolding positions
unchanged all f = record { figures_stored = rw all at f.figures_stored; total_is = f.total_is; carry_is = f.carry_is }
