-- How the quotient of a growing sum grows: its bounds, and the loop that stores the growths by turns. Assumes nothing.
use Rattle.std.proofs.Common.{◌≡◌, refl, ◌∙◌, ap, List, [], ◌∷◌, ◌++◌, ℕ, suc, ◌+◌, ◌-◌, ◌*◌, ◌/◌, ◌≤◌, ◌<◌, length, get_or, drop, arith}
use Rattle.std.proofs.Math.Nat.{lt-div-mul-add, mul-le-mul, mul_comm}
use Rattle.std.proofs.Math.ListN.{set, drop_of_length-le}
use Rattle.std.proofs.lemmas.Nat.{div_below}
use Rattle.lists.specs.Lists.{sum}
use Rattle.lists.proofs.Parts.{drop-next}
use Rattle.lists.proofs.Stores.{Storing, one-stored, all-stored, stored-first}
use Rattle.carry_quotients.specs.Inside.{growths, Growing}

-- a quotient grows by no more than what is added goes into the sum
growth-small : (unit sum added most : ℕ) → 0 < unit → added ≤ unit * most → (sum + added) / unit ≤ sum / unit + most
growth-small unit sum added most h k =
    let room : sum + added < (sum / unit + most + 1) * unit = omega (arith, k, lt-div-mul-add {a = sum} h, mul_comm unit most) in
    omega (arith, div_below (sum + added) unit (sum / unit + most + 1) h room)

length-growths : (unit factor : ℕ) (powers : List ℕ) (first : ℕ) → length (growths unit factor powers first) ≡ length powers
unfolding growths
length-growths unit factor [] first = refl
length-growths unit factor (p ∷ powers) first = ap suc (length-growths unit factor powers (first + p * factor))

-- the sum so far, and its quotient; `left` are the powers still to come
pub record Left (unit factor : ℕ) (powers : List ℕ) (first : ℕ) (before out : List ℕ) (at : ℕ) (s total : ℕ) : Type 0 where
  pub quotient : total ≡ s / unit
  pub stored : Storing before 0 (growths unit factor powers first) out at (growths unit factor (drop at powers) s)
  pub summed : s + sum (drop at powers) * factor ≡ first + sum powers * factor
  pub small : s ≤ first + at * (40_000 * factor)

module _ {unit factor : ℕ} {powers : List ℕ} {first : ℕ} (g : Growing unit factor powers first) where
  positive : 0 < unit
  positive = let above = g.none_yet in omega arith

  module _ {before out : List ℕ} {at s total : ℕ} (l : Left unit factor powers first before out at s total) where
    added : get_or powers at 0 * factor ≤ 40_000 * factor
    added = let same : factor ≤ factor = omega arith in mul-le-mul (g.small at) same

    pub growth : (s + get_or powers at 0 * factor) / unit - total ≤ 4_294_967_295
    growth =
        let few : get_or powers at 0 * factor ≤ unit * 4_294_967_295 = omega (arith, added, g.growth_small) in
        omega (arith, l.quotient, growth-small unit s (get_or powers at 0 * factor) 4_294_967_295 positive few)

    pub turn : at < length powers →
        Left unit factor powers first before (set out at ((s + get_or powers at 0 * factor) / unit - total)) (at + 1)
        (s + get_or powers at 0 * factor) ((s + get_or powers at 0 * factor) / unit)
    unfolding growths sum
    turn h =
        let e = drop-next powers at h in
        record {
          quotient = refl;
          stored = one-stored l.stored (rw (e, l.quotient)) refl;
          summed = omega (arith, rw e at l.summed);
          small = omega (arith, added, l.small);
        }

    pub done : length powers ≤ at → length powers ≤ length before →
        (s ≡ first + sum powers * factor) × (out ≡ growths unit factor powers first ++ drop (length powers) before)
    unfolding growths sum
    done h room =
        let none : drop at powers ≡ [] = drop_of_length-le powers {i = at} h in (
          omega (arith, rw none at l.summed),
          all-stored l.stored (rw none) ∙ stored-first (growths unit factor powers first) before (length-growths unit factor powers first) room,
        )
