-- Laws of the numbers that are allowed.
use Rattle.std.proofs.Common.{◌≡◌, ℕ, ◌^◌, ◌≤◌, Bool, true, false, T, eqb, leb, ℤ, pos, negsuc, nat_abs, sym, refl, ap, ◌∙◌, subst, arith, le→leb, lt→ltb, leb→le, eqb-true}
use lib.Ieee.{Float, binary64, fits, in_float, in_signed, of_bits, of_int, to_bits}
use lib.Ieee.Back.{positive_back, negative_back, Float-back_signed}
use lib.Ieee.Bits.{of_bits-to_bits, is_true}
use lib.Ieee.Fits.{and_i, and_l, and_r, of_int-fits}
use borrow.Author.Tests.{eqb-false}
use Rattle.polynomial.specs.Polynomial.{limit, Limited}
use Rattle.polynomial_binary64.specs.declared.Polynomial.{Polynomial}
use Rattle.polynomial_binary64.specs.Binary64.{whole, coefficients_of, allowed, Allowed}

pub holds : {test : Bool} → test ≡ true → T test
holds e = subst T (sym e) tt

-- what an allowed number is
pub allowed-signed : (most : ℕ) (c : Float) → allowed most c ≡ true → T (in_signed binary64 63 c)
unfolding allowed
allowed-signed most c a = and_l (in_signed binary64 63 c) (leb (nat_abs (whole c)) most) (holds a)

pub allowed-small : (most : ℕ) (c : Float) → allowed most c ≡ true → nat_abs (whole c) ≤ most
unfolding allowed
allowed-small most c a =
    leb→le (nat_abs (whole c)) most (and_r (in_signed binary64 63 c) (leb (nat_abs (whole c)) most) (holds a))

-- the coefficients of an allowed polynomial are within their limits
pub allowed-limited : (p : Polynomial) → Allowed p → Limited (coefficients_of p)
allowed-limited p a =
    record {
      small4 = allowed-small (limit 0) p.t4 a.allowed4;
      small3 = allowed-small (limit 1) p.t3 a.allowed3;
      small2 = allowed-small (limit 2) p.t2 a.allowed2;
      small1 = allowed-small (limit 3) p.t1 a.allowed1;
      small0 = allowed-small (limit 4) p.t0 a.allowed0;
    }

-- an allowed number is the binary64 number of its whole number
pub allowed-back : (most : ℕ) (c : Float) → T (fits binary64 c) → allowed most c ≡ true → of_int binary64 (whole c) ≡ c
allowed-back most c f a = (Float-back_signed binary64 63 c f (allowed-signed most c a)).1

-- up to 2^53 each whole number comes back from its binary64 number
pub in-float : (z : ℤ) → nat_abs z ≤ 2 ^ 53 → T (in_float binary64 z)
unfolding in_float
in-float (pos n) h = le→leb n (2 ^ 53) h
in-float (negsuc n) h = lt→ltb n (2 ^ 53) h

whole_back : (z : ℤ) → nat_abs z ≤ 2 ^ 53 → T (in_signed binary64 63 (of_int binary64 z)) × (whole (of_int binary64 z) ≡ z)
whole_back (pos n) h = positive_back binary64 63 n (in-float (pos n) h) (omega arith)
whole_back (negsuc n) h = negative_back binary64 63 n (in-float (negsuc n) h) (omega arith)

pub whole-signed : (z : ℤ) → nat_abs z ≤ 2 ^ 53 → T (in_signed binary64 63 (of_int binary64 z))
whole-signed z h = (whole_back z h).0

pub whole_of : (z : ℤ) → nat_abs z ≤ 2 ^ 53 → whole (of_int binary64 z) ≡ z
whole_of z h = (whole_back z h).1

pub allowed_of : (most : ℕ) (z : ℤ) → most ≤ 2 ^ 53 → nat_abs z ≤ most → allowed most (of_int binary64 z) ≡ true
unfolding allowed
allowed_of most z m h =
    is_true (allowed most (of_int binary64 z))
    (and_i (in_signed binary64 63 (of_int binary64 z)) (leb (nat_abs (whole (of_int binary64 z))) most) (whole-signed z (omega arith))
    (le→leb (nat_abs (whole (of_int binary64 z))) most (subst (λ (n : ℤ). nat_abs n ≤ most) (sym (whole_of z (omega arith))) h)))

refused : (test : Bool) → (test ≡ true → ⊥) → test ≡ false
refused true not = absurd (not refl)
refused false not = refl

pub not-allowed : (most : ℕ) (c : Float) → (allowed most c ≡ true → ⊥) → allowed most c ≡ false
not-allowed most c not = refused (allowed most c) not

-- two numbers with the same bits are one number
pub same_number : (x y : Float) → T (fits binary64 x) → T (fits binary64 y) → to_bits binary64 x ≡ to_bits binary64 y → x ≡ y
same_number x y f g e = sym (of_bits-to_bits binary64 x f) ∙ ap (of_bits binary64) e ∙ of_bits-to_bits binary64 y g

-- the bits of zero are 0
zero_is : of_bits binary64 0 ≡ of_int binary64 (pos 0)
unfolding of_bits of_int
zero_is = refl

pub allowed-zero : (most : ℕ) → most ≤ 2 ^ 53 → allowed most (of_bits binary64 0) ≡ true
allowed-zero most m = rw zero_is (allowed_of most (pos 0) m (omega arith))

-- a number without its fraction has the bits of the number only where that is allowed
pub same_bits : (most : ℕ) (x : Float) (z : ℤ) → T (fits binary64 x) → most ≤ 2 ^ 53 → z ≡ whole x → nat_abs z ≤ most →
    eqb (to_bits binary64 (of_int binary64 z)) (to_bits binary64 x) ≡ allowed most x
same_bits most x z f m w h = go (eqb (to_bits binary64 (of_int binary64 z)) (to_bits binary64 x)) refl
  where
    go : (same : Bool) → eqb (to_bits binary64 (of_int binary64 z)) (to_bits binary64 x) ≡ same → same ≡ allowed most x
    go true e =
        sym
        (subst (λ (y : Float). allowed most y ≡ true)
        (same_number (of_int binary64 z) x (of_int-fits binary64 z) f
        (eqb-true (to_bits binary64 (of_int binary64 z)) (to_bits binary64 x) e))
        (allowed_of most z m h))
    go false e =
        sym
        (not-allowed most x
        (λ a.
        eqb-false (to_bits binary64 (of_int binary64 z)) (to_bits binary64 x) e
        (ap (to_bits binary64) (ap (of_int binary64) w ∙ allowed-back most x f a))))
