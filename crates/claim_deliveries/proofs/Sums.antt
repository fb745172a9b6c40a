-- Sums of differences, and their sign. Assumes nothing.
use mathlib.Core.Path.{◌≡◌, refl, sym, ◌∙◌, ap}
use mathlib.Core.Bool.{Bool, true, false}
use mathlib.Core.List.{List, [], ◌∷◌, map}
use Prim.Native.Nat.{ℕ, zero, suc, ◌+◌, ◌-◌, ◌*◌, ◌≤◌, ◌<◌}
use native.Mathlib.Omega.{arith}
use lib.Dec.{ltb}
use lib.IntN.{ℤ, pos, ◌+ℤ◌, ◌-ℤ◌, neg_ℤ, +ℤ_assoc, +ℤ_comm, neg_ℤ-+ℤ}
use lib.ListN.{length, get_or}
use borrow.Author.Tests.{le-ltb, ltb-true, ltb-false}
use Rattle.lists.specs.Lists.{sum}
use Rattle.lists.proofs.Sums.{sum-append}
use Rattle.call_request.specs.Request.{Request, series}
use Rattle.call_expand.specs.Expanding.{totals}
use Rattle.call_deliveries.specs.Deliveries.{difference, differences_of}
use Rattle.claim_deliveries.specs.Settled.{joined_series, signed_sum, Signed}

-- a - b
more : (a b : ℕ) → b ≤ a → pos a -ℤ pos b ≡ pos (a - b)
more a zero h = ap pos (omega arith)
more a (suc b) h = rw (le-ltb a (suc b) h)

less : (a b : ℕ) → a ≤ b → pos a -ℤ pos b ≡ neg_ℤ (pos (b - a))
less a zero h = rw (none a h)
  where
    none : (a : ℕ) → a ≤ 0 → a ≡ 0
    none a h = omega arith
less a (suc b) h = by (ltb a (suc b)) refl
  where
    by : (t : Bool) → ltb a (suc b) ≡ t → pos a -ℤ pos (suc b) ≡ neg_ℤ (pos (suc b - a))
    by true e =
        let some : suc b - a ≡ suc (suc b - suc a) = omega (arith, ltb-true a (suc b) e) in
        rw (e, some)
    by false e =
        let none : a - suc b ≡ 0 = omega arith in
        let nothing : suc b - a ≡ 0 = omega (arith, ltb-false a (suc b) e) in
        rw (e, none, nothing)

pub signed : (metered balanced : ℕ) → Signed metered balanced
signed metered balanced = record { drew_more = more (1_000 * metered) balanced; drew_less = less (1_000 * metered) balanced }

-- two differences, added
added : (a b c d : ℕ) → (pos a -ℤ pos b) +ℤ (pos c -ℤ pos d) ≡ pos (a + c) -ℤ pos (b + d)
added a b c d =
    +ℤ_assoc (pos a) (neg_ℤ (pos b)) (pos c -ℤ pos d)
    ∙ ap (λ (z : ℤ). pos a +ℤ z) (sym (+ℤ_assoc (neg_ℤ (pos b)) (pos c) (neg_ℤ (pos d))) ∙ ap (λ (z : ℤ). z -ℤ pos d) (+ℤ_comm (neg_ℤ (pos b)) (pos c)) ∙ +ℤ_assoc (pos c) (neg_ℤ (pos b)) (neg_ℤ (pos d)))
    ∙ sym (+ℤ_assoc (pos a) (pos c) (neg_ℤ (pos b) +ℤ neg_ℤ (pos d)))
    ∙ ap (λ (z : ℤ). pos (a + c) +ℤ z) (sym (neg_ℤ-+ℤ (pos b) (pos d)))

-- the differences of as many metered values as periods
pub sum-differences : (metered : List ℕ) (periods : List Request) → length metered ≡ length periods →
    signed_sum (differences_of metered periods) ≡ pos (1_000 * sum metered) -ℤ pos (sum (joined_series periods))
unfolding signed_sum differences_of joined_series sum
sum-differences [] [] e = refl
sum-differences [] (r ∷ periods) e = absurd (omega arith)
sum-differences (kWh ∷ metered) [] e = absurd (omega arith)
sum-differences (kWh ∷ metered) (r ∷ periods) e =
    let kWhs : 1_000 * (kWh + sum metered) ≡ 1_000 * kWh + 1_000 * sum metered = omega arith in
    ap (λ (z : ℤ). difference kWh (totals r).total +ℤ z) (sum-differences metered periods (omega arith))
    ∙ added (1_000 * kWh) (totals r).total (1_000 * sum metered) (sum (joined_series periods))
    ∙ rw (kWhs, sum-append (series r) (joined_series periods))

-- the difference at an index
pub each-difference : (metered : List ℕ) (periods : List Request) → length metered ≡ length periods → (i : ℕ) → i < length metered →
    get_or (differences_of metered periods) i (pos 0) ≡ difference (get_or metered i 0) (get_or (map (λ r. (totals r).total) periods) i 0)
unfolding differences_of
each-difference [] periods e i h = absurd (omega arith)
each-difference (kWh ∷ metered) [] e i h = absurd (omega arith)
each-difference (kWh ∷ metered) (r ∷ periods) e zero h = refl
each-difference (kWh ∷ metered) (r ∷ periods) e (suc i) h = each-difference metered periods (omega arith) i (omega arith)
