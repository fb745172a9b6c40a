-- The figures of a range are the growths of a quotient, its carry the remainder. Assumes nothing.
use Rattle.std.proofs.Common.{◌≡◌, refl, ◌∙◌, List, [], ◌∷◌, ◌++◌, ℕ, suc, ◌+◌, ◌-◌, ◌*◌, ◌/◌, ◌%◌, ◌≤◌, length, get_or, drop, arith}
use Rattle.std.proofs.Math.Nat.{mul-le-mul, mul_comm}
use Rattle.lists.specs.Lists.{sum}
use Rattle.carry.specs.Carry.{largest_carry, figures, last_carry}
use Rattle.carry.proofs.Carry.{telescope, carry-small}
use Rattle.carry_quotients.specs.Inside.{SmallPowers, RangeCarried, growths}
use Rattle.carry_quotients.specs.declared.Carried.{Carried}

-- the sum of small powers
pub sum-small : (powers : List ℕ) → ((i : ℕ) → get_or powers i 0 ≤ 40_000) → sum powers ≤ length powers * 40_000
unfolding sum
sum-small [] h = omega arith
sum-small (p ∷ powers) h = omega (arith, h 0, sum-small powers (λ i. h (suc i)))

-- the growth of the quotient is the document's carry step, whatever the sum was before
growths-figures : (yearly : ℕ) (powers : List ℕ) (s : ℕ) → growths 40_000 yearly powers s ≡ figures yearly powers (s % 40_000)
unfolding growths figures
growths-figures yearly [] s = refl
growths-figures yearly (p ∷ powers) s =
    let figure : (s + p * yearly) / 40_000 - s / 40_000 ≡ (p * yearly + s % 40_000) / 40_000 = omega arith in
    let next : (s + p * yearly) % 40_000 ≡ (p * yearly + s % 40_000) % 40_000 = omega arith in
    rw (figure, growths-figures yearly powers (s + p * yearly), next)

-- what goes in comes out: the total is the quotient of the last sum, the carry its remainder
pub record Comes (yearly : ℕ) (powers : List ℕ) (carry : ℕ) : Type 0 where
  pub total : (carry + sum powers * yearly) / 40_000 ≡ sum (figures yearly powers carry)
  pub carry_left : (carry + sum powers * yearly) % 40_000 ≡ last_carry yearly powers carry

pub comes : (yearly : ℕ) (powers : List ℕ) (carry : ℕ) → carry ≤ largest_carry → Comes yearly powers carry
comes yearly powers carry h =
    let whole = telescope yearly carry powers in
    let small = carry-small yearly carry powers h in
    let turned = mul_comm yearly (sum powers) in
    record { total = omega arith; carry_left = omega arith }

-- the growths, stored, and the last sum are the range's figures and what they come to
pub carried : {powers : List ℕ} {yearly carry s : ℕ} {before after : List ℕ} {r : Carried} → SmallPowers powers yearly carry → length powers ≤ 96 →
    s ≡ carry + sum powers * yearly → after ≡ growths 40_000 yearly powers carry ++ drop (length powers) before →
    r.total ≡ s / 40_000 → r.carry ≡ s % 40_000 → RangeCarried powers yearly carry before r after
carried {powers} {yearly} {carry} {s} small short whole stored total left =
    let c = comes yearly powers carry small.in_range in
    let kept : carry % 40_000 ≡ carry = omega (arith, small.in_range) in
    let few : sum powers ≤ 96 * 40_000 = omega (arith, sum-small powers small.small) in
    let most : sum powers * yearly ≤ 96 * 40_000 * 1_000_000_000 = mul-le-mul few small.yearly_small in
    record {
      figures_stored = rw kept at (rw (growths-figures yearly powers carry) at stored);
      total_is = total ∙ (rw whole c.total);
      total_small = omega (arith, small.in_range);
      carry_is = left ∙ (rw whole c.carry_left);
    }
