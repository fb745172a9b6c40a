-- What the two roundings cost: the facts that the bound of demand 3 stands on, for every group, every day of the year
-- and every value P of a profile. Proved in proofs/Rounding.antt.
use Rattle.std.specs.Prelude.{◌≡◌, ℕ, suc, ◌+◌, ◌*◌, ◌^◌, ◌≤◌, ◌<◌, pos}
use Rattle.dynamisation.specs.Dynamisation.{X, F, Q}

-- X as a whole number x above 0, and F times 10^8 within half of 10^8 of it (a half goes up)
pub record FactorRounded (group t x : ℕ) : Type 0 where
  pub positive : 0 < x
  pub exact : X group t ≡ pos x
  pub above : F group t * 10 ^ 8 ≤ x + 5 * 10 ^ 7
  pub below : x < F group t * 10 ^ 8 + 5 * 10 ^ 7
  pub small : F group t ≤ 20_000

-- Q times 10,000 within 5,000 of P × F
pub record PowerRounded (p f : ℕ) : Type 0 where
  pub above : Q p f * 10_000 ≤ p * f + 5_000
  pub below : p * f < Q p f * 10_000 + 5_000

-- For G and L nothing is rounded
pub record Undynamised (group t p : ℕ) : Type 0 where
  pub factor : F (suc group) t ≡ 10_000
  pub power : Q p (F (suc group) t) ≡ p

-- the theorem
unfoldable pub Roundings : Type 0
Roundings =
    ((group t : ℕ) → 1 ≤ t → t ≤ 366 → (x : ℕ) × FactorRounded group t x)
    × ((p f : ℕ) → PowerRounded p f)
    × ((group t p : ℕ) → Undynamised group t p)
