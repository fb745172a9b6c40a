-- A sum kept in parts of 1/2^38 Wh: which sum of document 01 it stands for, and by how much it is above that sum. Assumes nothing.
use Rattle.std.proofs.Common.{◌≡◌, refl, List, [], ◌∷◌, ℕ, ◌+◌, ◌*◌, ◌/◌, ◌%◌, ◌≤◌, ◌<◌, arith}
use Rattle.std.proofs.Math.Nat.{mul-le-mul}
use Rattle.lists.specs.Lists.{sum}
use Rattle.carry_quotients.specs.Inside.{growths}

-- what stands for n: n / 40,000 in parts, rounded up
abbrev pub scaled : ℕ → ℕ
scaled n = (n * 274_877_906_944 + 39_999) / 40_000

-- the sum that some parts stand for, and what they are above it, in parts of 1/40,000
unfoldable pub sum_of : ℕ → ℕ
sum_of parts = parts * 40_000 / 274_877_906_944

unfoldable pub excess : ℕ → ℕ
excess parts = parts * 40_000 % 274_877_906_944

-- a sum's quotient and remainder by 40,000, from its parts
pub quotient-of : (parts : ℕ) → parts / 274_877_906_944 ≡ sum_of parts / 40_000
unfolding sum_of
quotient-of parts = omega arith

pub remainder_of : (parts : ℕ) → parts % 274_877_906_944 * 40_000 / 274_877_906_944 ≡ sum_of parts % 40_000
unfolding sum_of
remainder_of parts = omega (arith, quotient-of parts)

pub first-sum : (carry : ℕ) → carry ≤ 39_999 → sum_of (scaled carry) ≡ carry
unfolding sum_of
first-sum carry h = omega arith

pub first-excess : (carry : ℕ) → carry ≤ 39_999 → excess (scaled carry) ≤ 39_999
unfolding sum_of excess
first-excess carry h = omega (arith, first-sum carry h)

-- p times what stands for n, added to some parts
module _ (parts p n : ℕ) (few : excess parts + p * 39_999 < 274_877_906_944) where
  lower : p * (n * 274_877_906_944) ≤ p * (scaled n * 40_000)
  lower =
      let same : p ≤ p = omega arith in
      mul-le-mul same (omega arith)

  upper : p * (scaled n * 40_000) ≤ p * (n * 274_877_906_944 + 39_999)
  upper =
      let same : p ≤ p = omega arith in
      mul-le-mul same (omega arith)

  pub more-sum : sum_of (parts + p * scaled n) ≡ sum_of parts + p * n
  unfolding sum_of excess
  more-sum = omega (arith, lower, upper, few)

  pub more-excess : excess (parts + p * scaled n) ≤ excess parts + p * 39_999
  unfolding sum_of excess
  more-excess = omega (arith, lower, upper, few, more-sum)

-- the parts' quotient grows as that of the sum for which they stand
pub growths-of : (yearly : ℕ) (powers : List ℕ) (parts : ℕ) → excess parts + sum powers * 39_999 < 274_877_906_944 →
    growths 274_877_906_944 (scaled yearly) powers parts ≡ growths 40_000 yearly powers (sum_of parts)
unfolding growths sum
growths-of yearly [] parts few = refl
growths-of yearly (p ∷ powers) parts few =
    let here : excess parts + p * 39_999 < 274_877_906_944 = omega (arith, few) in
    let rest = growths-of yearly powers (parts + p * scaled yearly) (omega (arith, few, more-excess parts p yearly here)) in
    rw (quotient-of (parts + p * scaled yearly), quotient-of parts, rest, more-sum parts p yearly here)
