-- What holds on every day of the year: a usable polynomial's X is a whole number up to 2 × 10^12, and the implied polynomials are
-- usable, which antt computes day by day. Assumes nothing.
use mathlib.Core.Path.{◌≡◌, refl, ◌∙◌, ap}
use mathlib.Core.Bool.{Bool, true, false, ◌&&◌}
use mathlib.Core.Logic.{⊎_elim}
use Prim.Native.Nat.{ℕ, zero, suc, ◌*◌, ◌^◌, ◌≤◌}
use native.Mathlib.Nat.{le-suc_iff}
use native.Mathlib.Omega.{arith}
use lib.IntN.{ℤ, pos, negsuc}
use borrow.Author.Tests.{leb-true}
use Rattle.polynomial.specs.declared.Coefficients.{Coefficients}
use Rattle.polynomial.specs.Polynomial.{X, in_range, every_day, usable, Sound, ImpliedSound}
use Rattle.polynomial.specs.Inside.{Day}

-- a test that passes on each of the first n days
pub first : (a b : Bool) → (a && b) ≡ true → a ≡ true
first true b h = refl
first false b h = h

pub rest : (a b : Bool) → (a && b) ≡ true → b ≡ true
rest true b h = h
rest false b h = let z : ◌≡◌ {A = ℕ} 0 1 = cc in absurd (omega arith)

up_to : (test : ℕ → Bool) (n : ℕ) → every_day test n ≡ true → (t : ℕ) → 1 ≤ t → t ≤ n → test t ≡ true
up_to test zero p t h k = absurd (omega arith)
up_to test (suc n) p t h k =
    ⊎_elim (λ b. up_to test n (rest (test (suc n)) (every_day test n) p) t h b)
    (λ e. ap test e ∙ first (test (suc n)) (every_day test n) p)
    (le-suc_iff.0 k)

pub usable-on : (c : Coefficients) → usable c ≡ true → (t : ℕ) → Day t → in_range (X c t) ≡ true
unfolding usable
usable-on c h t d = up_to (λ t. in_range (X c t)) 366 h t d.0 d.1

-- z is the whole number x
pub record Whole (z : ℤ) : Type 0 where
  pub x : ℕ
  pub exact : z ≡ pos x
  pub limit : x ≤ 2 * 10 ^ 12

passed : (z : ℤ) → in_range z ≡ true → Whole z
passed (pos x) p = record { x = x; exact = refl; limit = leb-true x (2 * 10 ^ 12) p }
passed (negsuc n) p = let z : ◌≡◌ {A = ℕ} 0 1 = cc in absurd (omega arith)

pub whole : (c : Coefficients) → Sound c → (t : ℕ) → Day t → Whole (X c t)
whole c s t d = passed (X c t) (usable-on c s.in_range t d)

pub implied-sound : ImpliedSound
unfolding ImpliedSound X usable
implied-sound zero =
    record {
      limited = record { small4 = omega arith; small3 = omega arith; small2 = omega arith; small1 = omega arith; small0 = omega arith };
      in_range = refl;
    }
implied-sound (suc code) =
    record {
      limited = record { small4 = omega arith; small3 = omega arith; small2 = omega arith; small1 = omega arith; small0 = omega arith };
      in_range = refl;
    }
