-- The theorem of specs/Rounding.antt. The bounds of both roundings are what `half_up` says, by `omega`, of the whole number
-- that X is and of P × F. For G and L, X is 10^12, which leaves nothing to round. Assumes nothing.
use mathlib.Core.Path.{refl}
use Prim.Native.Nat.{ℕ}
use native.Mathlib.Omega.{arith}
use Rattle.dynamisation.specs.Dynamisation.{X, F, Q}
use Rattle.dynamisation.proofs.Days.{Day}
use Rattle.dynamisation.proofs.Dynamisation.{whole, rounded, F-small}
use Rattle.dynamisation_laws.specs.Rounding.{FactorRounded, PowerRounded, Undynamised, Roundings}

factor-rounded : (group t : ℕ) → Day t → (x : ℕ) × FactorRounded group t x
factor-rounded group t d =
    let w = whole group t d in (
      w.x,
      record {
        positive = w.positive;
        exact = w.exact;
        above = omega (arith, rounded group t w);
        below = omega (arith, rounded group t w);
        small = F-small group t d;
      },
    )

power-rounded : (p f : ℕ) → PowerRounded p f
unfolding Q
power-rounded p f = record { above = omega arith; below = omega arith }

undynamised : (group t p : ℕ) → Undynamised group t p
unfolding X F Q
undynamised group t p = record { factor = refl; power = omega arith }

pub roundings : Roundings
unfolding Roundings
roundings = (λ group t h k. factor-rounded group t (h, k), power-rounded, undynamised)
