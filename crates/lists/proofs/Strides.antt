-- Places at a stride: the arithmetic of n * k where n strides of k are left, and the laws of `each_from`, by induction over the number
-- of places. Assumes nothing.
use mathlib.Core.Path.{◌≡◌, refl, ap}
use mathlib.Core.List.{[], ◌∷◌}
use Prim.Native.Nat.{ℕ, zero, suc, ◌+◌, ◌-◌, ◌*◌, ◌≤◌, ◌<◌, min}
use native.Mathlib.Nat.{suc-mul, zero-min, min-zero, suc-min-suc}
use native.Mathlib.Omega.{arith}
use lib.ListN.{length, take, get_or}
use Rattle.lists.specs.Lists.{each_from}

-- one stride taken from n
pub stride : (n k : ℕ) → 0 < n → n * k ≡ (n - 1) * k + k
stride zero k h = absurd (omega arith)
stride (suc n) k h =
    let e : suc n - 1 ≡ n = omega arith in
    rw e (suc-mul n k)

-- n strides are left, from `at` to `end`; so far only docs/wip/coefficients cites this and its two laws
pub record Ahead (step n at end : ℕ) : Type 0 where
  pub ends : at + n * step ≡ end

module _ {step n at end : ℕ} (ahead : Ahead step n at end) where
  -- the next stride lies before the end, and behind it one less is left
  pub next-inside : 0 < n → at + step ≤ end
  next-inside h = omega (arith, stride n step h)

  pub one_less : 0 < n → Ahead step (n - 1) (at + step) end
  one_less h = record { ends = omega (arith, stride n step h) }

-- the first place, and those after it
here : (at k : ℕ) → at + zero * k ≡ at
here at k = omega arith

after : (at i k : ℕ) → at + suc i * k ≡ at + k + i * k
after at i k = omega (arith, suc-mul i k)

module _ {A : Type 0} (f : ℕ → A) (step : ℕ) where
  -- a turn of a loop over the places, and its end
  pub places-next : (n at : ℕ) → 0 < n → each_from f step n at ≡ f at ∷ each_from f step (n - 1) (at + step)
  unfolding each_from
  places-next zero at h = absurd (omega arith)
  places-next (suc n) at h =
      let e : n ≡ suc n - 1 = omega arith in
      ap (λ (m : ℕ). f at ∷ each_from f step m (at + step)) e

  pub places-end : (n at : ℕ) → n ≤ 0 → each_from f step n at ≡ []
  unfolding each_from
  places-end zero at h = refl
  places-end (suc n) at h = absurd (omega arith)

  pub length-places : (n at : ℕ) → length (each_from f step n at) ≡ n
  unfolding each_from
  length-places zero at = refl
  length-places (suc n) at = ap suc (length-places n (at + step))

  pub get_or-places : (n at i : ℕ) (d : A) → i < n → get_or (each_from f step n at) i d ≡ f (at + i * step)
  unfolding each_from
  get_or-places zero at i d h = absurd (omega arith)
  get_or-places (suc n) at zero d h = rw (here at step)
  get_or-places (suc n) at (suc i) d h = rw (after at i step) (get_or-places n (at + step) i d (omega arith))

  -- the first k of n places
  pub take_places : (k n at : ℕ) → each_from f step (min n k) at ≡ take k (each_from f step n at)
  unfolding each_from
  take_places zero n at = rw (min-zero n)
  take_places (suc k) zero at = rw (zero-min (suc k))
  take_places (suc k) (suc n) at = rw (suc-min-suc n k, take_places k n (at + step))

  -- the same stands at as many other places, from `there` on
  pub places-agree : (g : ℕ → A) (n at there : ℕ) → ((i : ℕ) → i < n → f (at + i * step) ≡ g (there + i * step)) →
      each_from f step n at ≡ each_from g step n there
  unfolding each_from
  places-agree g zero at there h = refl
  places-agree g (suc n) at there h =
      let first : f at ≡ g there = rw (here at step, here there step) at (h zero (omega arith)) in
      rw (first, places-agree g n (at + step) (there + step) (λ i l. rw (after at i step, after there i step) at (h (suc i) (omega arith))))
