-- `polynomial::sum` meets its contract: every product and every sum fits an i64, and the last sum is X.
use Prim.Native.Nat.{ℕ, ◌^◌, ◌≤◌, ◌<◌}
use native.Mathlib.Omega.{arith}
use lib.IntN.{ℤ, nat_abs}
use mir.Syntax.{w64}
use mir.Val.{SFits}
use Rattle.polynomial.proofs.Kept.{fits}
use Rattle.polynomial.proofs.Terms.{product, grown, term, sum2, sum3, sum4, sum5, sum-is-X}
use Rattle.polynomial.proofs.sum.Goals as goal

products : (t : ℕ) → t ≤ 366 → (n : ℕ) (z : ℤ) {b : ℕ} → nat_abs z ≤ b → grown n b < 2 ^ 63 → SFits w64 (product t n z)
products t day n z h k = fits (term t day n z h k) k

pub overflow_mul-result-2 : goal.overflow_mul-result-2
overflow_mul-result-2 c = products c.args.t c.requires.day.1 2 c.args.c.t4 c.requires.limited.small4 (omega arith)

pub overflow_mul-result-3 : goal.overflow_mul-result-3
overflow_mul-result-3 c = products c.args.t c.requires.day.1 3 c.args.c.t4 c.requires.limited.small4 (omega arith)

pub overflow_mul-result-4 : goal.overflow_mul-result-4
overflow_mul-result-4 c = products c.args.t c.requires.day.1 4 c.args.c.t4 c.requires.limited.small4 (omega arith)

pub overflow_mul-result-5 : goal.overflow_mul-result-5
overflow_mul-result-5 c = products c.args.t c.requires.day.1 1 c.args.c.t3 c.requires.limited.small3 (omega arith)

pub overflow_mul-result-6 : goal.overflow_mul-result-6
overflow_mul-result-6 c = products c.args.t c.requires.day.1 2 c.args.c.t3 c.requires.limited.small3 (omega arith)

pub overflow_mul-result-7 : goal.overflow_mul-result-7
overflow_mul-result-7 c = products c.args.t c.requires.day.1 3 c.args.c.t3 c.requires.limited.small3 (omega arith)

pub overflow_add-result : goal.overflow_add-result
overflow_add-result c = fits (sum2 c.args.c c.requires.limited c.args.t c.requires.day.1) (omega arith)

pub overflow_mul-result-8 : goal.overflow_mul-result-8
overflow_mul-result-8 c = products c.args.t c.requires.day.1 1 c.args.c.t2 c.requires.limited.small2 (omega arith)

pub overflow_mul-result-9 : goal.overflow_mul-result-9
overflow_mul-result-9 c = products c.args.t c.requires.day.1 2 c.args.c.t2 c.requires.limited.small2 (omega arith)

pub overflow_add-result-2 : goal.overflow_add-result-2
overflow_add-result-2 c = fits (sum3 c.args.c c.requires.limited c.args.t c.requires.day.1) (omega arith)

pub overflow_mul-result-10 : goal.overflow_mul-result-10
overflow_mul-result-10 c = products c.args.t c.requires.day.1 1 c.args.c.t1 c.requires.limited.small1 (omega arith)

pub overflow_add-result-3 : goal.overflow_add-result-3
overflow_add-result-3 c = fits (sum4 c.args.c c.requires.limited c.args.t c.requires.day.1) (omega arith)

pub overflow_add-result-4 : goal.overflow_add-result-4
overflow_add-result-4 c = fits (sum5 c.args.c c.requires.limited c.args.t c.requires.day.1) (omega arith)

pub returns : goal.returns
returns c = sum-is-X c.args.c c.requires.limited c.args.t c.requires.day.1
