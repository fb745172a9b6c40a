-- What holds in every year of the span: a test that antt computes year by year, and a law that turns it into the fact in each year.
-- Assumes nothing.
use mathlib.Core.Path.{◌≡◌, subst}
use mathlib.Core.Bool.{Bool, true, ◌&&◌}
use mathlib.Core.Logic.{⊎_elim}
use Prim.Native.Nat.{ℕ, zero, suc, ◌+◌, ◌-◌, ◌<◌}
use native.Mathlib.Nat.{le-suc_iff}
use native.Mathlib.Omega.{arith}
use lib.Dec.{T, eqb, eqb→eq}
use mir.Facts.{and_yes}
use Rattle.calendar_movable_days.specs.Inside.{InSpan}

-- the test f passes in the first n years of the span
abbrev pub every : (ℕ → Bool) → ℕ → Bool
every f zero = true
every f (suc n) = f (1996 + n) && every f n

up_to : (f : ℕ → Bool) (n : ℕ) → T (every f n) → (k : ℕ) → k < n → T (f (1996 + k))
up_to f zero p k h = absurd (omega arith)
up_to f (suc n) p k h =
    ⊎_elim (λ b. up_to f n (and_yes (f (1996 + n)) (every f n) p).1 k b)
    (λ e. let same : n ≡ k = omega arith in subst (λ (m : ℕ). T (f (1996 + m))) same (and_yes (f (1996 + n)) (every f n) p).0)
    (le-suc_iff.0 h)

pub in-year : (f : ℕ → Bool) → T (every f 104) → (year : ℕ) → InSpan year → T (f year)
in-year f p year s =
    let e : 1996 + (year - 1996) ≡ year = omega (arith, s) in
    subst (λ (m : ℕ). T (f m)) e (up_to f 104 p (year - 1996) (omega (arith, s)))

abbrev same_test : (ℕ → ℕ) → (ℕ → ℕ) → ℕ → Bool
same_test f g year = eqb (f year) (g year)

pub same : (f g : ℕ → ℕ) → T (every (same_test f g) 104) → (year : ℕ) → InSpan year → f year ≡ g year
same f g p year s = eqb→eq (f year) (g year) (in-year (same_test f g) p year s)
