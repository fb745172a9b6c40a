-- A day's figures as one quotient: what goes in comes out as figures or as carry. Assumes nothing.
use Rattle.std.proofs.Common.{◌≡◌, refl, ◌∙◌, sym, ap, List, [], ◌∷◌, ◌++◌, ℕ, ◌+◌, ◌*◌, ◌/◌, ◌%◌, ◌≤◌, length, arith, length-append}
use Rattle.std.specs.Prelude as std
use Rattle.std.proofs.Math.Nat.{mul-le-mul}
use Rattle.std.proofs.lemmas.List.Sums.{sum_by-cons}
use Rattle.lists.specs.Lists.{sum}
use Rattle.lists.proofs.Sums.{sum-append}
use Rattle.calendar_days.specs.declared.Clock.{Clock}
use Rattle.calendar_days.specs.Days.{positions}
use Rattle.carry.specs.Carry.{largest_carry}
use Rattle.carry_quotients.specs.Inside.{SmallPowers}
use Rattle.carry_quotients.proofs.Figures.{sum-small, comes}
use Rattle.carry_day.proofs.TwoRanges.{positions-small}
use Rattle.carry_total.specs.Inside.{DayTotal}

-- std's sum of a list
pub sums : (xs : List ℕ) → std.sum xs ≡ sum xs
unfolding sum
sums [] = refl
sums (x ∷ xs) = sum_by-cons (λ y. y) x xs ∙ ap (λ (n : ℕ). x + n) (sums xs)

-- the day's two ranges, summed
module _ (powers one two : List ℕ) (clock : Clock) (yearly carry : ℕ) (joined : one ++ two ≡ positions clock powers) where
  pub both : std.sum one + std.sum two ≡ sum (positions clock powers)
  both = rw (sums one, sums two, ← joined) (sym (sum-append one two))

  module _ (small : SmallPowers powers yearly carry) where
    pub power-small : length one ≤ 96 → length two ≤ 96 → std.sum one + std.sum two ≤ 192 * 40_000
    power-small h k =
        let short : length (positions clock powers) ≤ 192 = rw (← joined) (omega (arith, length-append one two)) in
        omega (arith, both, sum-small (positions clock powers) (positions-small clock powers small.small))

    pub energy-small : length one ≤ 96 → length two ≤ 96 → (std.sum one + std.sum two) * yearly ≤ 192 * 40_000 * 1_000_000_000
    energy-small h k = mul-le-mul (power-small h k) small.yearly_small

  pub day-total : carry ≤ largest_carry → DayTotal powers clock yearly carry
      (record { total = ((std.sum one + std.sum two) * yearly + carry) / 40_000; carry = ((std.sum one + std.sum two) * yearly + carry) % 40_000 })
  day-total in_range =
      let whole = comes yearly (positions clock powers) carry in_range in
      rw both (record { total_is = omega (arith, whole.total); carry_is = omega (arith, whole.carry_left) })
