-- A run cut in two joins again, and what a run's sum is: by turns over the quarter hours.
-- Assumes nothing.
use mathlib.Core.Path.{◌≡◌, refl, ◌∙◌, ap}
use mathlib.Core.List.{List, [], ◌∷◌, ◌++◌}
use Prim.Native.Nat.{ℕ, zero, suc, ◌+◌, ◌*◌, ◌/◌, ◌%◌, ◌≤◌}
use native.Mathlib.Omega.{arith}
use native.Mathlib.Nat.{mul-add, mul_comm, mul-zero}
use lib.ListN.{length, take, drop}
use Rattle.lists.specs.Lists.{sum}
use Rattle.lists.proofs.Sums.{sum-append}
use Rattle.carry.specs.Carry.{largest_carry, figures, last_carry, RunsJoin}

pub figures-append : (yearly : ℕ) (first second : List ℕ) (carry : ℕ) → figures yearly (first ++ second) carry ≡ figures yearly first carry ++ figures yearly second (last_carry yearly first carry)
unfolding figures last_carry
figures-append yearly [] second carry = refl
figures-append yearly (p ∷ first) second carry =
    ap (λ (rest : List ℕ). (p * yearly + carry) / 40_000 ∷ rest) (figures-append yearly first second ((p * yearly + carry) % 40_000))

pub carry-append : (yearly : ℕ) (first second : List ℕ) (carry : ℕ) → last_carry yearly (first ++ second) carry ≡ last_carry yearly second (last_carry yearly first carry)
unfolding last_carry
carry-append yearly [] second carry = refl
carry-append yearly (p ∷ first) second carry = carry-append yearly first second ((p * yearly + carry) % 40_000)

pub length-figures : (yearly : ℕ) (powers : List ℕ) (carry : ℕ) → length (figures yearly powers carry) ≡ length powers
unfolding figures
length-figures yearly [] carry = refl
length-figures yearly (p ∷ powers) carry = omega (arith, length-figures yearly powers ((p * yearly + carry) % 40_000))

pub carry-small : (yearly carry : ℕ) (powers : List ℕ) → carry ≤ largest_carry → last_carry yearly powers carry ≤ largest_carry
unfolding last_carry
carry-small yearly carry [] h = h
carry-small yearly carry (p ∷ powers) h = carry-small yearly ((p * yearly + carry) % 40_000) powers (omega arith)

-- what goes in comes out, as figures or as carry
pub telescope : (yearly carry : ℕ) (powers : List ℕ) → 40_000 * sum (figures yearly powers carry) + last_carry yearly powers carry ≡ yearly * sum powers + carry
unfolding figures last_carry sum
telescope yearly carry [] = omega (arith, mul-zero yearly)
telescope yearly carry (p ∷ powers) =
    omega (arith, telescope yearly ((p * yearly + carry) % 40_000) powers, mul-add yearly p (sum powers), mul_comm yearly p)

pub runs-join : RunsJoin
unfolding RunsJoin
runs-join = (
  λ yearly carry first second.
      let join = figures-append yearly first second carry in
      record {
        figures_join = join;
        totals_add = ap sum join ∙ sum-append (figures yearly first carry) (figures yearly second (last_carry yearly first carry));
        carry_handed_on = carry-append yearly first second carry;
      },
  carry-small,
)

-- a run of figures is the figures of the run, with the carry that the quarter hours before it leave
pub figures-take : (yearly n : ℕ) (powers : List ℕ) (carry : ℕ) → take n (figures yearly powers carry) ≡ figures yearly (take n powers) carry
unfolding figures
figures-take yearly zero powers carry = refl
figures-take yearly (suc n) [] carry = refl
figures-take yearly (suc n) (p ∷ powers) carry =
    ap (λ (rest : List ℕ). (p * yearly + carry) / 40_000 ∷ rest) (figures-take yearly n powers ((p * yearly + carry) % 40_000))

pub figures-drop : (yearly k : ℕ) (powers : List ℕ) (carry : ℕ) → drop k (figures yearly powers carry) ≡ figures yearly (drop k powers) (last_carry yearly (take k powers) carry)
unfolding figures last_carry
figures-drop yearly zero powers carry = refl
figures-drop yearly (suc k) [] carry = refl
figures-drop yearly (suc k) (p ∷ powers) carry = figures-drop yearly k powers ((p * yearly + carry) % 40_000)
