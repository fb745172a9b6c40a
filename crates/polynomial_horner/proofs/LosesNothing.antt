-- The evaluation by Horner's rule in binary64 numbers loses nothing: each step is exact, its whole number below 2^53.
use mathlib.Core.Path.{◌≡◌, ◌∙◌, ap, subst, sym}
use Prim.Native.Nat.{ℕ, ◌+◌, ◌*◌, ◌^◌, ◌≤◌}
use native.Mathlib.Nat.{mul-le-mul}
use native.Mathlib.Omega.{arith}
use lib.IntN.{ℤ, pos, nat_abs, ◌+ℤ◌, ◌*ℤ◌}
use lib.Ieee.{Float, binary64, add, of_int}
use Rattle.polynomial.specs.Polynomial.{X, limit}
use Rattle.polynomial_binary64.specs.declared.Polynomial.{Polynomial}
use Rattle.polynomial_binary64.specs.Binary64.{whole, coefficients_of, Allowed}
use Rattle.polynomial_horner.specs.Horner.{step, horner, LosesNothing}
use Rattle.polynomial.proofs.Integers.{size-times, size-plus}
use Rattle.polynomial_horner.proofs.Integers.{sum3, sum2, sum1, sum-is-X}
use Rattle.polynomial_horner.proofs.WholeFloats.{IsWhole, integer, Back, back, product, whole_sum, AllowedWhole, allowed-whole}

-- x is the whole number z, in the one form, and z is in size at most `most`
pub record Exact (x : Float) (z : ℤ) (most : ℕ) : Type 0 where
  pub same : x ≡ of_int binary64 z
  pub small : nat_abs z ≤ most

module _ (t : ℕ) (first : 1 ≤ t) (last : t ≤ 366) where
  -- one step, from a sum so far that is the whole number `before`
  exact-step : (x c : Float) (before : ℤ) (most bound : ℕ) → IsWhole x before → nat_abs before ≤ most → most * 366 ≤ 2 ^ 53 → AllowedWhole bound c →
      Exact (step t x c) (before *ℤ pos t +ℤ whole c) (most * 366 + bound)
  unfolding step
  exact-step x c before most bound w small room a =
      let size = size-times before t in
      let larger : nat_abs before * t ≤ most * 366 = mul-le-mul small last in
      let day = integer (pos t) (omega arith) in
      let times = product x (of_int binary64 (pos t)) before t first w day in
      let multiplied = integer (before *ℤ pos t) (omega arith) in
      record {
        same = ap (λ (y : Float). add binary64 y c) times ∙ whole_sum (of_int binary64 (before *ℤ pos t)) c (before *ℤ pos t) (whole c) multiplied a.is_whole;
        small = omega (arith, size-plus (before *ℤ pos t) (whole c), a.small);
      }

  -- the next step, from the sum that the step before came to
  next-step : (x c : Float) (before : ℤ) (most bound : ℕ) → Exact x before most → most * 366 ≤ 2 ^ 53 → AllowedWhole bound c →
      Exact (step t x c) (before *ℤ pos t +ℤ whole c) (most * 366 + bound)
  next-step x c before most bound s room a =
      exact-step x c before most bound (subst (λ (y : Float). IsWhole y before) (sym s.same) (integer before (omega (arith, s.small)))) s.small room a

  pub evaluation : (p : Polynomial) → Allowed p → Exact (horner p t) (X (coefficients_of p) t) 247_528_105_936_000
  unfolding horner
  evaluation p h =
      let c = coefficients_of p in
      let a4 = allowed-whole (limit 0) p.t4 h.allowed4 in
      let a3 = allowed-whole (limit 1) p.t3 h.allowed3 in
      let a2 = allowed-whole (limit 2) p.t2 h.allowed2 in
      let a1 = allowed-whole (limit 3) p.t1 h.allowed1 in
      let a0 = allowed-whole (limit 4) p.t0 h.allowed0 in
      let s3 = exact-step p.t4 p.t3 c.t4 1_000 (limit 1) a4.is_whole a4.small (omega arith) a3 in
      let s2 = next-step _ p.t2 (sum3 c t) 1_366_000 (limit 2) s3 (omega arith) a2 in
      let s1 = next-step _ p.t1 (sum2 c t) 1_499_956_000 (limit 3) s2 (omega arith) a1 in
      let s0 = next-step _ p.t0 (sum1 c t) 648_983_896_000 (limit 4) s1 (omega arith) a0 in
      subst (λ (z : ℤ). Exact (horner p t) z 247_528_105_936_000) (sum-is-X c t) s0

pub loses-nothing : LosesNothing
unfolding LosesNothing
loses-nothing p t h first last = (evaluation t (omega arith) (omega arith) p h).same

-- the float of a day is X as a whole number
pub evaluated : (p : Polynomial) (t : ℕ) (x : Float) → Allowed p → 1 ≤ t → t ≤ 366 → x ≡ horner p t → Back (X (coefficients_of p) t) x
evaluated p t x h first last e =
    let s = evaluation t first last p h in
    subst (Back (X (coefficients_of p) t)) (sym (e ∙ s.same)) (back (X (coefficients_of p) t) (omega (arith, s.small)))
