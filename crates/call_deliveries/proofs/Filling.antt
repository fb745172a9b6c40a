-- The differences, stored one after the other: those of the periods left, begun with a carry. Laws for the loop's start, turn and end.
-- Assumes nothing.
use mathlib.Core.Path.{◌≡◌, refl, ◌∙◌, ap}
use mathlib.Core.List.{List, [], ◌∷◌, ◌++◌}
use Prim.Native.Nat.{ℕ, suc, ◌+◌, ◌≤◌}
use native.Mathlib.Omega.{arith}
use lib.IntN.{ℤ}
use lib.ListN.{length, get_or, drop, set, drop_of_length-le}
use Rattle.lists.proofs.Parts.{drop-next}
use Rattle.lists.proofs.Stores.{stored-first, Storing, one-stored, all-stored}
use Rattle.calendar_period.specs.Period.{PeriodDays}
use Rattle.carry.specs.declared.Totals.{Totals}
use Rattle.carry.proofs.Carry.{carry-small}
use Rattle.day_powers.specs.DayQuarters.{Basis}
use Rattle.series.specs.Inside.{InRange, comes_to}
use Rattle.call_deliveries.specs.Deliveries.{difference}
use Rattle.call_deliveries.specs.Inside.{powers_in, differences_from}

-- as many differences as metered values
pub length-differences : (b : Basis) (yearly : ℕ) (metered : List ℕ) (periods : List PeriodDays) (carry : ℕ) → length metered ≡ length periods →
    length (differences_from b yearly metered periods carry) ≡ length metered
unfolding differences_from
length-differences b yearly [] periods carry e = refl
length-differences b yearly (kWh ∷ metered) [] carry e = absurd (omega arith)
length-differences b yearly (kWh ∷ metered) (p ∷ periods) carry e = ap suc (length-differences b yearly metered periods _ (omega arith))

-- the loop, where some periods are left
pub record Left (b : Basis) (yearly : ℕ) (metered : List ℕ) (whole : List ℤ) (entry out : List ℤ) (at carry : ℕ) (periods : List PeriodDays) : Type 0 where
  pub stored : Storing entry 0 whole out at (differences_from b yearly (drop at metered) periods carry)
  pub same : at + length periods ≡ length metered
  pub range : InRange yearly carry

module _ {b : Basis} {yearly : ℕ} {metered : List ℕ} where
  module _ {whole entry out : List ℤ} {at carry : ℕ} {periods : List PeriodDays} (l : Left b yearly metered whole entry out at carry periods) where
    pub turn : {p : PeriodDays} {rest : List PeriodDays} {t : Totals} {z : ℤ} → periods ≡ p ∷ rest → t ≡ comes_to yearly (powers_in b p) carry →
        z ≡ difference (get_or metered at 0) t.total → Left b yearly metered whole entry (set out at z) (at + 1) t.carry rest
    unfolding differences_from
    turn {p} {rest} e s d =
        let same = rw e at l.same in
        rw (d, s)
        (record {
          stored = one-stored l.stored (rw (e, drop-next metered at (omega arith)) refl) refl;
          same = omega arith;
          range = record { yearly_small = l.range.yearly_small; carry_small = carry-small yearly carry (powers_in b p) l.range.carry_small };
        })

    pub end : periods ≡ [] → length whole ≡ length metered → length metered ≤ length entry → out ≡ whole ++ drop (length metered) entry
    unfolding differences_from
    end e n room =
        let same = rw e at l.same in
        all-stored l.stored (rw (e, drop_of_length-le metered {i = at} (omega arith)) refl) ∙ stored-first whole entry n room
