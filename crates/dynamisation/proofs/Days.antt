-- What holds on every day of the year, t = 1 to 366: a test that antt computes day by day, and a law that turns it into the fact at
-- each t. Assumes nothing.
use mathlib.Core.Path.{subst⁻¹}
use mathlib.Core.Bool.{Bool, true, ◌&&◌}
use mathlib.Core.Logic.{⊎_elim}
use Prim.Native.Nat.{ℕ, zero, suc, ◌≤◌}
use native.Mathlib.Nat.{le-suc_iff}
use native.Mathlib.Omega.{arith}
use lib.Dec.{T}
use mir.Facts.{and_yes}

-- the days of the year
abbrev pub Day : ℕ → Type 0
Day t = (1 ≤ t) × (t ≤ 366)

-- the test f passes at each t from 1 to n
abbrev pub every : (ℕ → Bool) → ℕ → Bool
every f zero = true
every f (suc n) = f (suc n) && every f n

up_to : (f : ℕ → Bool) (n : ℕ) → T (every f n) → (t : ℕ) → 1 ≤ t → t ≤ n → T (f t)
up_to f zero p t h k = absurd (omega arith)
up_to f (suc n) p t h k =
    ⊎_elim (λ b. up_to f n (and_yes (f (suc n)) (every f n) p).1 t h b)
    (λ e. subst⁻¹ (λ (m : ℕ). T (f m)) e (and_yes (f (suc n)) (every f n) p).0)
    (le-suc_iff.0 k)

pub on-day : (f : ℕ → Bool) → T (every f 366) → (t : ℕ) → Day t → T (f t)
on-day f p t d = up_to f 366 p t d.0 d.1
