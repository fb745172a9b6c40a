-- Document 01, "Dynamisation", and document 02, (f): the polynomial of the day of the year whose value X is the factor.
use Rattle.std.specs.Prelude.{◌≡◌, Bool, true, false, ◌&&◌, List, [], ◌∷◌, ℕ, zero, suc, ◌*◌, ◌^◌, ◌≤◌, leb, eqb, ℤ, pos, negsuc, ◌+ℤ◌, ◌*ℤ◌, neg_ℤ, nat_abs, get_or}
use Rattle.polynomial.specs.declared.Coefficients.{Coefficients}

-- "for t^4 down to t^0, in units of 10^-12"
abbrev pub coefficients : ℤ → ℤ → ℤ → ℤ → ℤ → Coefficients
coefficients t4 t3 t2 t1 t0 = record { t4 = t4; t3 = t3; t2 = t2; t1 = t1; t0 = t0 }

-- "the factor in units of 10^-12 is the signed sum X": t is the day of the year, 1 to 366
unfoldable pub X : Coefficients → ℕ → ℤ
X c t =
    c.t4 *ℤ pos (t ^ 4) +ℤ c.t3 *ℤ pos (t ^ 3) +ℤ c.t2 *ℤ pos (t ^ 2)
    +ℤ c.t1 *ℤ pos t
    +ℤ c.t0

-- "For H0 .. X = -392 t^4 + 320,000 t^3 - 70,200,000 t^2 + 2,100,000,000 t + 1,240,000,000,000"
abbrev pub household : Coefficients
household =
    coefficients (neg_ℤ (pos 392)) (pos 320_000) (neg_ℤ (pos 70_200_000)) (pos 2_100_000_000)
    (pos 1_240_000_000_000)

-- "For G and L, X is 10^12"
abbrev pub factor_one : Coefficients
factor_one = coefficients (pos 0) (pos 0) (pos 0) (pos 0) (pos (10 ^ 12))

-- "its implied polynomials": those of a file of version 1, by group code; 0 is H0
abbrev pub implied : ℕ → Coefficients
implied zero = household
implied (suc code) = factor_one

-- "in size at most 1,000, 10^6, 10^9, 10^11 and 10^13 in that order"
abbrev pub limits : List ℕ
limits = 1_000 ∷ 10 ^ 6 ∷ 10 ^ 9 ∷ 10 ^ 11 ∷ 10 ^ 13 ∷ []

abbrev pub limit : ℕ → ℕ
limit i = get_or limits i 0

pub record Limited (c : Coefficients) : Type 0 where
  pub small4 : nat_abs c.t4 ≤ limit 0
  pub small3 : nat_abs c.t3 ≤ limit 1
  pub small2 : nat_abs c.t2 ≤ limit 2
  pub small1 : nat_abs c.t1 ≤ limit 3
  pub small0 : nat_abs c.t0 ≤ limit 4

-- "X must be from 0 to 2 × 10^12 on all 366 days"
abbrev pub in_range : ℤ → Bool
in_range (pos x) = leb x (2 * 10 ^ 12)
in_range (negsuc x) = false

-- a test passes on each of the first n days
abbrev pub every_day : (ℕ → Bool) → ℕ → Bool
every_day test zero = true
every_day test (suc t) = test (suc t) && every_day test t

unfoldable pub usable : Coefficients → Bool
usable c = every_day (λ t. in_range (X c t)) 366

-- whether two polynomials are the same, coefficient by coefficient
abbrev pub same_number : ℤ → ℤ → Bool
same_number (pos a) (pos b) = eqb a b
same_number (pos a) (negsuc b) = false
same_number (negsuc a) (pos b) = false
same_number (negsuc a) (negsuc b) = eqb a b

unfoldable pub agree : Coefficients → Coefficients → Bool
agree a b =
    same_number a.t4 b.t4 && same_number a.t3 b.t3 && same_number a.t2 b.t2
    && same_number a.t1 b.t1
    && same_number a.t0 b.t0

-- the theorem: polynomials agree exactly when they are equal. Proved in proofs/Agree.antt.
unfoldable pub AgreeIsEqual : Type 0
AgreeIsEqual = (a b : Coefficients) → (agree a b ≡ true → a ≡ b) × (a ≡ b → agree a b ≡ true)

-- what an accepted file's polynomial is
pub record Sound (c : Coefficients) : Type 0 where
  pub limited : Limited c
  pub in_range : usable c ≡ true

-- the theorem: the implied polynomials are such ones. Proved in proofs/Days.antt.
unfoldable pub ImpliedSound : Type 0
ImpliedSound = (code : ℕ) → Sound (implied code)
