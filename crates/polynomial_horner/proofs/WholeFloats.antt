-- Binary64 numbers whose values are whole numbers: a coefficient that is allowed has the value of its whole number, and products and
-- sums are those of the whole numbers, in the one form of `of_int`.
use mathlib.Core.Path.{◌≡◌, refl, sym, ◌∙◌, ap, subst}
use mathlib.Core.Bool.{Bool, true, false, not, ◌&&◌, cond, true≢false, false≢true}
use Prim.Native.Nat.{ℕ, zero, suc, ◌+◌, ◌-◌, ◌*◌, ◌/◌, ◌%◌, ◌^◌, ◌≤◌, ◌<◌}
use native.Mathlib.Nat.{mul-one, mul_assoc, mul_comm, mul_left_comm, mul-pos, div-add-mod', zero-mul, add-mul, mul-sub, mul-lt-mul_of_pos_right, mul-le-mul_right}
use native.Mathlib.Omega.{arith}
use lib.Dec.{T, leb, ltb, eqb, leb→le, le→leb, lt→ltb, eqb→eq}
use lib.IntN.{ℤ, pos, negsuc, neg_ℤ, nat_abs, sub_ℕ, ◌+ℤ◌, ◌*ℤ◌}
use lib.Ieee as Ieee
use lib.Ieee.{Float, nan, inf, fin, binary64, up, down, round, sum, add, mul, of_int, in_signed, in_float}
use lib.Ieee.Back.{round_whole, positive_back, negative_back}
use lib.Ieee.Casts.{to_signed_cut}
use lib.Ieee.Exact.{HasValue}
use lib.Ieee.Fits.{up_pos, down_pos, and_l, and_r}
use lib.Ieee.Scale.{round_same}
use borrow.Author.Tests.{ltb-true, ltb-false, lt-ltb, le-ltb, eq-eqb}
use Rattle.polynomial_binary64.specs.Binary64.{whole, allowed}

-- x is the whole number z, and 0 is not negative zero
abbrev pub IsWhole : Float → ℤ → Type 0
IsWhole x (pos n) = HasValue x false n 1
IsWhole x (negsuc n) = HasValue x true (suc n) 1

-- ---- whole numbers as binary64 numbers
pub integer : (z : ℤ) → nat_abs z ≤ 2 ^ 53 → IsWhole (of_int binary64 z) z
unfolding of_int
integer (pos n) h = round_whole binary64 false n h
integer (negsuc n) h = round_whole binary64 true (suc n) h

-- x passes the test for a whole number, and is cast to z
pub record Back (z : ℤ) (x : Float) : Type 0 where
  pub is_whole : T (in_signed binary64 63 x)
  pub same : whole x ≡ z

pub back : (z : ℤ) → nat_abs z ≤ 2 ^ 53 → Back z (of_int binary64 z)
unfolding in_float
back (pos n) h =
    let b = positive_back binary64 63 n (le→leb n (2 ^ 53) h) (omega arith) in
    record { is_whole = b.0; same = b.1 }
back (negsuc n) h =
    let b = negative_back binary64 63 n (lt→ltb n (2 ^ 53) (omega arith)) (omega arith) in
    record { is_whole = b.0; same = b.1 }

-- ---- products
-- the sizes a and b multiplied, each in parts of a whole
times : (m n a b d e : ℕ) → m * 1 ≡ a * d → n * 1 ≡ b * e → m * n * 1 ≡ a * b * (d * e)
times m n a b d e p q =
    let p1 : m ≡ a * d = omega arith in
    let q1 : n ≡ b * e = omega arith in
    mul-one (m * n) ∙ rw (p1, q1) (simp (mul_assoc, mul_left_comm))

product-of : (x y : Float) (s : Bool) (a t : ℕ) → HasValue x s a 1 → HasValue y false t 1 → mul binary64 x y ≡ round binary64 s (a * t) 1
unfolding mul
product-of nan y s a t p q = elim p [ ]
product-of (inf _) y s a t p q = elim p [ ]
product-of (fin s m e) nan z a t p q = elim q [ ]
product-of (fin s m e) (inf _) z a t p q = elim q [ ]
product-of (fin true m e) (fin false n d) true a t p q =
    round_same binary64 true (m * up e * (n * up d)) (down e * down d) (a * t) 1 (mul-pos (down_pos e) (down_pos d)) (omega arith)
    (times (m * up e) (n * up d) a t (down e) (down d) p.1 q.1)
product-of (fin false m e) (fin false n d) false a t p q =
    round_same binary64 false (m * up e * (n * up d)) (down e * down d) (a * t) 1 (mul-pos (down_pos e) (down_pos d)) (omega arith)
    (times (m * up e) (n * up d) a t (down e) (down d) p.1 q.1)
product-of (fin true m e) (fin false n d) false a t p q = absurd (true≢false p.0)
product-of (fin false m e) (fin false n d) true a t p q = absurd (false≢true p.0)
product-of (fin s m e) (fin true n d) z a t p q = absurd (true≢false q.0)

-- the negative product of two sizes above 0
negative : (k : ℕ) → 0 < k → round binary64 true k 1 ≡ of_int binary64 (neg_ℤ (pos k))
unfolding of_int
negative zero h = absurd (omega arith)
negative (suc k) h = refl

pub product : (x y : Float) (z : ℤ) (t : ℕ) → 1 ≤ t → IsWhole x z → IsWhole y (pos t) → mul binary64 x y ≡ of_int binary64 (z *ℤ pos t)
unfolding of_int
product x y (pos a) t h p q = product-of x y false a t p q
product x y (negsuc a) t h p q = product-of x y true (suc a) t p q ∙ negative (suc a * t) (mul-pos (omega arith) h)

-- ---- sums
ltb-scaled : (a b d : ℕ) → 0 < d → ltb (a * d) (b * d) ≡ ltb a b
ltb-scaled a b d h = go (ltb a b) refl
  where
    go : (test : Bool) → ltb a b ≡ test → ltb (a * d) (b * d) ≡ test
    go true e = lt-ltb (a * d) (b * d) (mul-lt-mul_of_pos_right (ltb-true a b e) h)
    go false e = le-ltb (a * d) (b * d) (mul-le-mul_right d (ltb-false a b e))

difference-scaled : (a b d : ℕ) → a * d - b * d ≡ (a - b) * d
difference-scaled a b d = sym (mul_comm (a - b) d ∙ mul-sub d a b ∙ rw (mul_comm d a, mul_comm d b) refl)

round-scaled : (s : Bool) (a n d : ℕ) → 0 < d → n ≡ a * d → round binary64 s n d ≡ round binary64 s a 1
round-scaled s a n d h e = round_same binary64 s n d a 1 h (omega arith) (mul-one n ∙ e)

-- a sum of two sizes in parts of a whole
module _ (a b d : ℕ) (h : 0 < d) where
  unlike-scaled : (s t : Bool) →
      cond (ltb (a * d) (b * d)) (round binary64 t (b * d - a * d) d) (round binary64 (s && ltb (b * d) (a * d)) (a * d - b * d) d)
      ≡ cond (ltb a b) (round binary64 t (b - a) 1) (round binary64 (s && ltb b a) (a - b) 1)
  unlike-scaled s t =
      rw (ltb-scaled a b d h, ltb-scaled b a d h, round-scaled t (b - a) (b * d - a * d) d h (difference-scaled b a d), round-scaled (s && ltb b a) (a - b) (a * d - b * d) d h (difference-scaled a b d))

  sum-scaled : (s t : Bool) → sum binary64 s (a * d) t (b * d) d ≡ sum binary64 s a t b 1
  unfolding sum
  sum-scaled true true = round-scaled true (a + b) (a * d + b * d) d h (sym (add-mul a b d))
  sum-scaled false false = round-scaled false (a + b) (a * d + b * d) d h (sym (add-mul a b d))
  sum-scaled true false = unlike-scaled true false
  sum-scaled false true = unlike-scaled false true

-- a whole number in parts of d * e
pub left-part : (m a d e : ℕ) → m * 1 ≡ a * d → m * e ≡ a * (d * e)
left-part m a d e p = let p1 : m ≡ a * d = omega arith in rw p1 (mul_assoc a d e)

pub right-part : (n b d e : ℕ) → n * 1 ≡ b * e → n * d ≡ b * (d * e)
right-part n b d e p = let p1 : n ≡ b * e = omega arith in rw p1 (mul_assoc b e d ∙ ap (λ (k : ℕ). b * k) (mul_comm e d))

sum_of : (x y : Float) (s t : Bool) (a b : ℕ) → HasValue x s a 1 → HasValue y t b 1 → add binary64 x y ≡ sum binary64 s a t b 1
unfolding add
sum_of nan y s t a b p q = elim p [ ]
sum_of (inf _) y s t a b p q = elim p [ ]
sum_of (fin u m e) nan s t a b p q = elim q [ ]
sum_of (fin u m e) (inf _) s t a b p q = elim q [ ]
sum_of (fin u m e) (fin v n d) s t a b p q =
    ap (λ (w : Bool). sum binary64 w (m * up e * down d) v (n * up d * down e) (down e * down d)) p.0
    ∙ ap (λ (w : Bool). sum binary64 s (m * up e * down d) w (n * up d * down e) (down e * down d)) q.0
    ∙ ap (λ (k : ℕ). sum binary64 s k t (n * up d * down e) (down e * down d)) (left-part (m * up e) a (down e) (down d) p.1)
    ∙ ap (λ (k : ℕ). sum binary64 s (a * (down e * down d)) t k (down e * down d)) (right-part (n * up d) b (down e) (down d) q.1)
    ∙ sum-scaled a b (down e * down d) (mul-pos (down_pos e) (down_pos d)) s t

difference : (a b : ℕ) → sum binary64 false a true b 1 ≡ of_int binary64 (sub_ℕ a b)
unfolding sum of_int
difference a b = go (ltb a b) refl
  where
    go : (test : Bool) → ltb a b ≡ test → cond test (round binary64 true (b - a) 1) (round binary64 false (a - b) 1) ≡ of_int binary64 (cond test (negsuc (b - suc a)) (pos (a - b)))
    go true e = let above : b - a ≡ suc (b - suc a) = omega (arith, ltb-true a b e) in ap (λ (k : ℕ). round binary64 true k 1) above
    go false e = refl

difference-back : (a b : ℕ) → sum binary64 true a false b 1 ≡ of_int binary64 (sub_ℕ b a)
unfolding sum of_int
difference-back a b = go (ltb b a) (ltb a b) refl refl
  where
    go : (test back : Bool) → ltb b a ≡ test → ltb a b ≡ back →
        cond back (round binary64 false (b - a) 1) (round binary64 test (a - b) 1) ≡ of_int binary64 (cond test (negsuc (a - suc b)) (pos (b - a)))
    go true true e f = absurd (omega (arith, ltb-true b a e, ltb-true a b f))
    go true false e f = let above : a - b ≡ suc (a - suc b) = omega (arith, ltb-true b a e) in ap (λ (k : ℕ). round binary64 true k 1) above
    go false true e f = refl
    go false false e f = let none : a - b ≡ b - a = omega (arith, ltb-false b a e, ltb-false a b f) in ap (λ (k : ℕ). round binary64 false k 1) none

pub whole_sum : (x y : Float) (z w : ℤ) → IsWhole x z → IsWhole y w → add binary64 x y ≡ of_int binary64 (z +ℤ w)
unfolding sum of_int
whole_sum x y (pos a) (pos b) p q = sum_of x y false false a b p q
whole_sum x y (pos a) (negsuc b) p q = sum_of x y false true a (suc b) p q ∙ difference a (suc b)
whole_sum x y (negsuc a) (pos b) p q = sum_of x y true false (suc a) b p q ∙ difference-back (suc a) b
whole_sum x y (negsuc a) (negsuc b) p q = sum_of x y true true (suc a) (suc b) p q ∙ (let same : suc a + suc b ≡ suc (suc (a + b)) = omega arith in ap (λ (k : ℕ). round binary64 true k 1) same)

-- ---- a coefficient that is allowed
module _ (m : ℕ) (e : ℤ) (k : ℕ) (value : m * up e * 1 ≡ k * down e) where
  negative-value : (n : ℕ) → n ≡ k → T (not (eqb m 0)) → IsWhole (fin true m e) (neg_ℤ (pos n))
  negative-value (suc n) h nonzero = (refl, rw h value)
  negative-value zero h nonzero = absurd (go m refl)
    where
      go : (n : ℕ) → n ≡ m → ⊥
      go zero g = subst (λ (b : Bool). T (not b)) (eq-eqb m 0 (sym g)) nonzero
      go (suc n) g =
          let above : 0 < m * up e = mul-pos (omega arith) (up_pos e) in
          let none : k * down e ≡ 0 = ap (λ (i : ℕ). i * down e) (sym h) ∙ zero-mul (down e) in
          omega arith

whole-value : (m : ℕ) (e : ℤ) → m * up e % down e ≡ 0 → m * up e * 1 ≡ m * up e / down e * down e
whole-value m e h = let split = div-add-mod' (m * up e) (down e) in omega arith

pub record AllowedWhole (most : ℕ) (c : Float) : Type 0 where
  pub signed : T (in_signed binary64 63 c)
  pub is_whole : IsWhole c (whole c)
  pub small : nat_abs (whole c) ≤ most

pub coefficient-whole : (c : Float) → T (in_signed binary64 63 c) → IsWhole c (whole c)
unfolding in_signed Ieee.whole
coefficient-whole nan t = elim t [ ]
coefficient-whole (inf _) t = elim t [ ]
coefficient-whole (fin s m e) t =
    let k = m * up e / down e in
    let exact = eqb (m * up e % down e) 0 in
    let short = leb k (2 ^ 53) in
    let w : T (exact && short && not (s && eqb m 0)) = and_l (exact && short && not (s && eqb m 0)) (cond s (leb k (2 ^ 63)) (ltb k (2 ^ 63))) t in
    let r : m * up e % down e ≡ 0 = eqb→eq (m * up e % down e) 0 (and_l exact short (and_l (exact && short) (not (s && eqb m 0)) w)) in
    subst (IsWhole (fin s m e)) (sym (to_signed_cut binary64 63 s m e t))
    (go s (and_r (exact && short) (not (s && eqb m 0)) w) (whole-value m e r))
  where
    go : (s : Bool) → T (not (s && eqb m 0)) → m * up e * 1 ≡ m * up e / down e * down e →
        IsWhole (fin s m e) (cond s (neg_ℤ (pos (m * up e / down e))) (pos (m * up e / down e)))
    go false nonzero value = (refl, value)
    go true nonzero value = negative-value m e (m * up e / down e) value (m * up e / down e) refl nonzero

pub allowed-whole : (most : ℕ) (c : Float) → allowed most c ≡ true → AllowedWhole most c
unfolding allowed
allowed-whole most c h =
    let t : T (in_signed binary64 63 c && leb (nat_abs (whole c)) most) = subst T (sym h) tt in
    let whole-number = and_l (in_signed binary64 63 c) (leb (nat_abs (whole c)) most) t in
    record {
      signed = whole-number;
      is_whole = coefficient-whole c whole-number;
      small = leb→le (nat_abs (whole c)) most (and_r (in_signed binary64 63 c) (leb (nat_abs (whole c)) most) t);
    }
