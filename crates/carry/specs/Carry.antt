-- Document 01, "Series and carry": the figures that powers Q make with a yearly use A, and the carry they leave.
use Rattle.std.specs.Prelude.{◌≡◌, List, [], ◌∷◌, ◌++◌, ℕ, ◌+◌, ◌*◌, ◌/◌, ◌%◌, ◌≤◌}
use Rattle.lists.specs.Lists.{sum}

-- "Yearly use A is in whole kWh, 0 to 1,000,000,000"
abbrev pub largest_use : ℕ
largest_use = 1_000_000_000

-- "The carry is 0 to 39,999"
abbrev pub largest_carry : ℕ
largest_carry = 39_999

-- "Each quarter hour takes Q × A + carry, gives the quotient by 40,000 as its figure in Wh, and keeps the remainder as the next
-- carry."
unfoldable pub figures : ℕ → List ℕ → ℕ → List ℕ
figures yearly [] carry = []
figures yearly (power ∷ powers) carry =
    (power * yearly + carry) / 40_000 ∷ figures yearly powers ((power * yearly + carry) % 40_000)

unfoldable pub last_carry : ℕ → List ℕ → ℕ → ℕ
last_carry yearly [] carry = carry
last_carry yearly (power ∷ powers) carry = last_carry yearly powers ((power * yearly + carry) % 40_000)

-- a run cut in two, with the carry handed on: the figures joined, the totals added and the last carry are those of the whole
pub record Joined (yearly carry : ℕ) (first second : List ℕ) : Type 0 where
  pub figures_join : figures yearly (first ++ second) carry ≡ figures yearly first carry ++ figures yearly second (last_carry yearly first carry)
  pub totals_add : sum (figures yearly (first ++ second) carry) ≡ sum (figures yearly first carry) + sum (figures yearly second (last_carry yearly first carry))
  pub carry_handed_on : last_carry yearly (first ++ second) carry ≡ last_carry yearly second (last_carry yearly first carry)

-- the theorem: it is so at every cut, and the carry stays in its range. Proved in proofs/Carry.antt.
unfoldable pub RunsJoin : Type 0
RunsJoin =
    ((yearly carry : ℕ) (first second : List ℕ) → Joined yearly carry first second)
    × ((yearly carry : ℕ) (powers : List ℕ) → carry ≤ largest_carry → last_carry yearly powers carry ≤ largest_carry)
