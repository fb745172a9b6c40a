-- The numbers whose whole part an i64 holds: from -2^63 to below 2^63.
use Rattle.std.proofs.Common.{ℕ, ◌+◌, ◌*◌, ◌/◌, ◌%◌, ◌^◌, ◌<◌, ◌≤◌, Bool, true, false, cond, not, ◌&&◌, ◌||◌, T, eqb, ltb, leb, ℤ, pos, div-lt_iff_lt-mul, arith, lt→ltb, leb→le}
use lib.Ieee.{Float, nan, inf, fin, binary64, up, down, whole, in_signed, is_nan, le, lt, eq}
use lib.Ieee.Fits.{and_l, and_r, down_pos}

-- the least i64, and the first number above all of them
abbrev pub lowest : Float
lowest = fin true 1 (pos 63)

abbrev pub beyond : Float
beyond = fin false 1 (pos 63)

either : (p q : Bool) → T p → T (p || q)
either true q t = t
either false q t = elim t [ ]

whole_part : (s : Bool) (m : ℕ) (e : ℤ) → T (in_signed binary64 63 (fin s m e)) → m * up e / down e ≤ 2 ^ 53
unfolding in_signed whole
whole_part s m e t =
    let part = m * up e / down e in
    let rest = m * up e % down e in
    leb→le part (2 ^ 53)
    (and_r (eqb rest 0) (leb part (2 ^ 53))
    (and_l (eqb rest 0 && leb part (2 ^ 53)) (not (s && eqb m 0))
    (and_l (whole binary64 (fin s m e)) (cond s (leb part (2 ^ 63)) (ltb part (2 ^ 63))) t)))

under : (a b : ℕ) → 0 < b → a / b ≤ 2 ^ 53 → a * 1 < 1 * 2 ^ 63 * b
under a b p h =
    let less : a < 2 ^ 63 * b = (div-lt_iff_lt-mul p).0 (omega arith) in
    omega arith

some : (a b : ℕ) → 0 < b → 0 < 1 * 2 ^ 63 * b + a
some a b p = omega arith

more : (a b : ℕ) → 0 < b → 0 < a + 1 * 2 ^ 63 * b
more a b p = omega arith

pub not-below : (x : Float) → T (in_signed binary64 63 x) → T (le lowest x)
unfolding in_signed le lt eq
not-below nan t = elim t [ ]
not-below (inf _) t = elim t [ ]
not-below (fin false m e) t =
    either (ltb 0 (1 * up (pos 63) * down e + m * up e * 1)) (eq lowest (fin false m e))
    (lt→ltb 0 (1 * up (pos 63) * down e + m * up e * 1) (some (m * up e * 1) (down e) (down_pos e)))
not-below (fin true m e) t =
    either (ltb (m * up e * 1) (1 * up (pos 63) * down e)) (eq lowest (fin true m e))
    (lt→ltb (m * up e * 1) (1 * up (pos 63) * down e) (under (m * up e) (down e) (down_pos e) (whole_part true m e t)))

pub below : (x : Float) → T (in_signed binary64 63 x) → T (lt x beyond)
unfolding in_signed lt
below nan t = elim t [ ]
below (inf _) t = elim t [ ]
below (fin false m e) t =
    lt→ltb (m * up e * 1) (1 * up (pos 63) * down e) (under (m * up e) (down e) (down_pos e) (whole_part false m e t))
below (fin true m e) t =
    lt→ltb 0 (m * up e * 1 + 1 * up (pos 63) * down e) (more (m * up e * 1) (down e) (down_pos e))

-- neither a number below another nor one that is a whole number is a NaN
pub number-below : (x y : Float) → T (lt x y) → T (not (is_nan x))
unfolding lt is_nan
number-below nan y t = elim t [ ]
number-below (inf s) y t = tt
number-below (fin s m e) y t = tt

pub number-whole : (x : Float) → T (in_signed binary64 63 x) → T (not (is_nan x))
unfolding in_signed is_nan
number-whole nan t = elim t [ ]
number-whole (inf _) t = elim t [ ]
number-whole (fin s m e) t = tt
