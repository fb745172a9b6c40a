-- A power by a factor in parts of 1/2^30: the same quotient as Q. Assumes nothing.
use mathlib.Core.Path.{◌≡◌}
use Prim.Native.Nat.{ℕ, ◌+◌, ◌*◌, ◌/◌, ◌≤◌}
use native.Mathlib.Nat.{mul-le-mul}
use native.Mathlib.Omega.{arith}
use Rattle.dynamisation.specs.Dynamisation.{Q}

-- a factor in parts of 1/2^30, rounded up
abbrev pub scaled : ℕ → ℕ
scaled f = (f * 1_073_741_824 + 9_999) / 10_000

pub product_small : (p f : ℕ) → p ≤ 20_000 → f ≤ 20_000 → p * scaled f ≤ 20_000 * 2_147_483_648
product_small p f hp hf = mul-le-mul {m₂ = 2_147_483_648} hp (omega arith)

-- 10,000 times the product is above 2^30 × P × F by no more than 9,999 × P, which is below 2^30
pub scaled_power : (p f : ℕ) → p ≤ 20_000 → (p * scaled f + 536_870_912) / 1_073_741_824 ≡ Q p f
unfolding Q
scaled_power p f hp =
    let same : p ≤ p = omega arith in
    let lower : p * (f * 1_073_741_824) ≤ p * (scaled f * 10_000) = mul-le-mul same (omega arith) in
    let upper : p * (scaled f * 10_000) ≤ p * (f * 1_073_741_824 + 9_999) = mul-le-mul same (omega arith) in
    omega (arith, lower, upper)

-- a factor of 1 leaves the value as it is
pub by_one : (p f : ℕ) → f ≡ 10_000 → p ≡ Q p f
unfolding Q
by_one p f e = rw e (omega arith)
