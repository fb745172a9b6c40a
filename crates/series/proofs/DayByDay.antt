-- A period's days, one after the other: what the days so far come to, put together with the powers of the days left, is the whole. Laws
-- for a loop's start, turn and end. And the whole's total fits: no power is above 40,000, and no day has more than 100.
-- Assumes nothing.
use mathlib.Core.Path.{◌≡◌, refl, sym, ◌∙◌, ap}
use mathlib.Core.Bool.{true}
use mathlib.Core.List.{List, [], ◌∷◌, ◌++◌, map-append, append_assoc}
use Prim.Native.Nat.{ℕ, zero, suc, ◌+◌, ◌-◌, ◌*◌, ◌^◌, ◌≤◌}
use native.Mathlib.Nat.{mul-le-mul}
use native.Mathlib.Omega.{arith}
use lib.ListN.{length, get_or, length-append, length-map}
use Rattle.lists.specs.Lists.{sum, Each}
use Rattle.lists.proofs.Sums.{sum-append}
use Rattle.lists.proofs.Members.{each_append}
use Rattle.calendar_dates.specs.declared.Date.{Date}
use Rattle.calendar_dates.specs.Dates.{is_date, next_day, AllDates}
use Rattle.calendar_dates.proofs.Later.{all_first, all-next}
use Rattle.calendar_days.specs.declared.DayKind.{DayKind}
use Rattle.calendar_days.specs.Days.{clock, day_kind}
use Rattle.calendar_period.specs.Period.{dates_from}
use Rattle.calendar_period.proofs.Periods.{values-small}
use Rattle.carry.specs.declared.Totals.{Totals}
use Rattle.carry.specs.Totals.{together}
use Rattle.carry.specs.Carry.{figures, last_carry}
use Rattle.carry.specs.Energy.{powers}
use Rattle.carry.proofs.Carry.{figures-append, carry-append, carry-small, telescope}
use Rattle.day_powers.specs.DayQuarters.{Basis, day_quarters}
use Rattle.day_powers.proofs.DayQuarters.{each-position, day-powers-positions}
use Rattle.series.specs.Inside.{GroupValues, InRange, comes_to, with_kinds}
use Rattle.series.specs.Series.{quarters_of_days}
use Rattle.series.proofs.Series.{length-quarters}
use Rattle.series.proofs.OneDay.{powers_before, day_powers, day-powers-small}

-- the powers of some days of a group
abbrev pub powers_from : Basis → ℕ → Date → List ℕ
powers_from b n d = powers (quarters_of_days (day_quarters b) n d)

-- the powers of some dates, each with its kind
abbrev pub powers_on : Basis → List (Date × DayKind) → List ℕ
powers_on b [] = []
powers_on b (day ∷ days) = day_powers b day.0 ++ powers_on b days

-- each date's kind is its own
abbrev pub OwnKinds : List ℕ → List (Date × DayKind) → Type 0
OwnKinds holidays days = Each (λ (day : Date × DayKind). day.1 ≡ day_kind day.0 holidays) days

own-kinds : (holidays : List ℕ) (dates : List Date) → OwnKinds holidays (with_kinds holidays dates)
own-kinds holidays [] = tt
own-kinds holidays (d ∷ dates) = (refl, own-kinds holidays dates)

powers-all : (b : Basis) (n : ℕ) (d : Date) → powers_on b (with_kinds b.holidays (dates_from n d)) ≡ powers_from b n d
unfolding quarters_of_days
powers-all b zero d = refl
powers-all b (suc n) d =
    ap (λ (rest : List ℕ). day_powers b d ++ rest) (powers-all b n (next_day d))
    ∙ sym (map-append _ (day_quarters b d) (quarters_of_days (day_quarters b) n (next_day d)))

-- what two runs come to together
comes-together : (yearly carry : ℕ) (first second : List ℕ) →
    comes_to yearly (first ++ second) carry ≡ together (comes_to yearly first carry) (comes_to yearly second (last_carry yearly first carry))
comes-together yearly carry first second =
    rw (
      length-append first second,
      figures-append yearly first second carry,
      sum-append (figures yearly first carry) (figures yearly second (last_carry yearly first carry)),
      carry-append yearly first second carry,
    )

-- the whole's figures can be counted and added up
pub record Fits (yearly carry : ℕ) (whole : List ℕ) : Type 0 where
  pub few : length whole ≤ 146_100
  pub most : sum (figures yearly whole carry) ≤ 146_100 * 10 ^ 9

-- the days so far have the powers `done` and come to `totals`; those of `left` are still to come
pub record SoFar (b : Basis) (yearly carry : ℕ) (whole done : List ℕ) (left : List (Date × DayKind)) (totals : Totals) : Type 0 where
  pub parts : done ++ powers_on b left ≡ whole
  pub come_to : totals ≡ comes_to yearly done carry
  pub kinds : OwnKinds b.holidays left
  pub range : InRange yearly carry
  pub fits : Fits yearly carry whole

-- no power above 40,000
abbrev pub Small : List ℕ → Type 0
Small xs = Each (λ (p : ℕ). p ≤ 40_000) xs

small-each : (xs : List ℕ) → ((i : ℕ) → get_or xs i 0 ≤ 40_000) → Small xs
small-each [] h = tt
small-each (x ∷ xs) h = (h 0, small-each xs (λ i. h (suc i)))

sum-small : (xs : List ℕ) → Small xs → sum xs ≤ 40_000 * length xs
unfolding sum
sum-small [] h = omega arith
sum-small (x ∷ xs) h = omega (arith, h.0, sum-small xs h.1)

module _ (b : Basis) (sound : GroupValues b.values) where
  day-small : (d : Date) → is_date d ≡ true → Small (day_powers b d)
  day-small d h =
      rw (day-powers-positions b d)
      (each-position _ (clock d) _ (small-each (powers_before b d) (day-powers-small b sound d h)))

  pub all_small : (n : ℕ) (d : Date) → AllDates n d → Small (powers_from b n d)
  unfolding quarters_of_days
  all_small zero d h = tt
  all_small (suc n) d h =
      let one : suc n - 1 ≡ n = omega arith in
      rw (map-append _ (day_quarters b d) (quarters_of_days (day_quarters b) n (next_day d)))
      (each_append _ (day_powers b d) (powers_from b n (next_day d))
      (day-small d (all_first (suc n) d h (omega arith))) (all_small n (next_day d) (rw one at (all-next (suc n) d h))))

  -- the total is at most 10^9 Wh for each of 146,100 quarter hours
  pub whole-fits : {yearly carry : ℕ} (n : ℕ) (d : Date) → InRange yearly carry → n ≤ 1_461 → AllDates n d → Fits yearly carry (powers_from b n d)
  whole-fits {yearly} {carry} n d range few real =
      let all = powers_from b n d in
      let count : length all ≤ 146_100 =
      omega (arith, length-map (quarters_of_days (day_quarters b) n d) (λ q. q.power), length-quarters b n d sound.whole, values-small n d) in
      let limit : sum all ≤ 40_000 * 146_100 = omega (arith, sum-small all (all_small n d real)) in
      record { few = count; most = omega (arith, telescope yearly carry all, mul-le-mul range.yearly_small limit, range.carry_small) }

  -- no day is done yet
  pub start : {yearly carry : ℕ} (n : ℕ) (d : Date) → InRange yearly carry → n ≤ 1_461 → AllDates n d →
      SoFar b yearly carry (powers_from b n d) [] (with_kinds b.holidays (dates_from n d)) (record { count = 0; total = 0; carry = carry })
  unfolding figures last_carry sum
  start n d range few real =
      record {
        parts = powers-all b n d;
        come_to = refl;
        kinds = own-kinds b.holidays (dates_from n d);
        range = range;
        fits = whole-fits n d range few real;
      }

module _ {b : Basis} {yearly carry : ℕ} {whole done : List ℕ} {left : List (Date × DayKind)} {totals : Totals}
    (s : SoFar b yearly carry whole done left totals) where
  -- the carry so far is in range
  pub in-range : InRange yearly totals.carry
  in-range =
      record { yearly_small = s.range.yearly_small; carry_small = rw s.come_to (carry-small yearly carry done s.range.carry_small) }

  -- the next day and those behind it
  module _ {d : Date} {kind : DayKind} {rest : List (Date × DayKind)} (e : left ≡ (d, kind) ∷ rest) where
    split : done ++ (day_powers b d ++ powers_on b rest) ≡ whole
    split = rw e at s.parts

    joined : (done ++ day_powers b d) ++ powers_on b rest ≡ whole
    joined = append_assoc done (day_powers b d) (powers_on b rest) ∙ split

    -- what the next day comes to, and the days so far with it
    abbrev today : Totals
    today = comes_to yearly (day_powers b d) totals.carry

    with_today : together totals today ≡ comes_to yearly (done ++ day_powers b d) carry
    with_today = rw s.come_to (sym (comes-together yearly carry done (day_powers b d)))

    pub count-fits : totals.count + length (day_powers b d) ≤ length whole
    count-fits =
        let counts = ap (λ (t : Totals). t.count) s.come_to in
        omega (arith, ap length split, length-append done (day_powers b d ++ powers_on b rest), length-append (day_powers b d) (powers_on b rest))

    pub total-fits : totals.total + sum (figures yearly (day_powers b d) totals.carry) ≤ 146_100 * 10 ^ 9
    total-fits =
        let all = rw (sym joined) at s.fits.most in
        let parts = comes-together yearly carry (done ++ day_powers b d) (powers_on b rest) in
        let totals_of = ap (λ (t : Totals). t.total) with_today in
        let sums = ap (λ (t : Totals). t.total) parts in
        omega arith

    -- what they come to is part of the whole
    pub day-part : totals.total + sum (figures yearly (day_powers b d) totals.carry) ≤ sum (figures yearly whole carry)
    day-part =
        let parts = comes-together yearly carry (done ++ day_powers b d) (powers_on b rest) in
        let totals_of = ap (λ (t : Totals). t.total) with_today in
        let sums = ap (λ (t : Totals). t.total) parts in
        rw (sym joined) (omega arith)

    -- a turn
    pub day-done : {r : Totals} → r ≡ together totals today → SoFar b yearly carry whole (done ++ day_powers b d) rest r
    day-done h =
        record {
          parts = joined;
          come_to = h ∙ with_today;
          kinds = (rw e at s.kinds).1;
          range = s.range;
          fits = s.fits;
        }
