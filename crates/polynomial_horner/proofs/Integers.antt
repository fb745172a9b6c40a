-- Horner's rule on whole numbers is the sum X.
use mathlib.Core.Path.{◌≡◌, sym, ◌∙◌, ap}
use Prim.Native.Nat.{ℕ, zero, suc, ◌*◌, ◌^◌}
use native.Mathlib.Nat.{pow-suc, pow-zero, one-mul}
use lib.IntN.{ℤ, pos, ◌+ℤ◌, ◌*ℤ◌, suc_ℤ-*ℤ, *ℤ_comm, *ℤ-zero, +ℤ_assoc, +ℤ_comm}
use Rattle.polynomial.specs.declared.Coefficients.{Coefficients}
use Rattle.polynomial.specs.Polynomial.{X}
use Rattle.polynomial.proofs.Integers.{times-times}

product-suc : (z : ℤ) (t : ℕ) → z *ℤ pos (suc t) ≡ z *ℤ pos t +ℤ z
product-suc z t = *ℤ_comm z (pos (suc t)) ∙ suc_ℤ-*ℤ (pos t) z ∙ ap (λ (k : ℤ). k +ℤ z) (*ℤ_comm (pos t) z)

-- (a + b) + (c + d) is (a + c) + (b + d)
exchange : (a b c d : ℤ) → a +ℤ b +ℤ (c +ℤ d) ≡ a +ℤ c +ℤ (b +ℤ d)
exchange a b c d =
    +ℤ_assoc a b (c +ℤ d)
    ∙ ap (λ (k : ℤ). a +ℤ k) (sym (+ℤ_assoc b c d) ∙ ap (λ (k : ℤ). k +ℤ d) (+ℤ_comm b c) ∙ +ℤ_assoc c b d)
    ∙ sym (+ℤ_assoc a c (b +ℤ d))

pub sum-product : (x y : ℤ) (t : ℕ) → (x +ℤ y) *ℤ pos t ≡ x *ℤ pos t +ℤ y *ℤ pos t
sum-product x y zero = *ℤ-zero (x +ℤ y) ∙ sym (ap (λ (k : ℤ). k +ℤ y *ℤ pos zero) (*ℤ-zero x) ∙ ap (λ (k : ℤ). pos zero +ℤ k) (*ℤ-zero y))
sum-product x y (suc t) =
    product-suc (x +ℤ y) t
    ∙ ap (λ (k : ℤ). k +ℤ (x +ℤ y)) (sum-product x y t)
    ∙ exchange (x *ℤ pos t) (y *ℤ pos t) x y
    ∙ sym (ap (λ (k : ℤ). k +ℤ y *ℤ pos (suc t)) (product-suc x t) ∙ ap (λ (k : ℤ). x *ℤ pos t +ℤ x +ℤ k) (product-suc y t))

-- ---- Horner's rule
first-power : (t : ℕ) → t ^ 1 ≡ t
first-power t = pow-suc t 0 ∙ rw pow-zero (one-mul t)

second-power : (t : ℕ) → t ^ 2 ≡ t * t
second-power t = pow-suc t 1 ∙ ap (λ (k : ℕ). k * t) (first-power t)

third-power : (t : ℕ) → t ^ 3 ≡ t * t * t
third-power t = pow-suc t 2 ∙ ap (λ (k : ℕ). k * t) (second-power t)

fourth-power : (t : ℕ) → t ^ 4 ≡ t * t * t * t
fourth-power t = pow-suc t 3 ∙ ap (λ (k : ℕ). k * t) (third-power t)

-- the sums of whole numbers that the four steps of Horner's rule come to
abbrev pub sum3 : Coefficients → ℕ → ℤ
sum3 c t = c.t4 *ℤ pos t +ℤ c.t3

abbrev pub sum2 : Coefficients → ℕ → ℤ
sum2 c t = sum3 c t *ℤ pos t +ℤ c.t2

abbrev pub sum1 : Coefficients → ℕ → ℤ
sum1 c t = sum2 c t *ℤ pos t +ℤ c.t1

abbrev pub sum0 : Coefficients → ℕ → ℤ
sum0 c t = sum1 c t *ℤ pos t +ℤ c.t0

pub sum-is-X : (c : Coefficients) (t : ℕ) → sum0 c t ≡ X c t
unfolding X
sum-is-X c t = simp (sum-product, times-times, fourth-power t, third-power t, second-power t)
