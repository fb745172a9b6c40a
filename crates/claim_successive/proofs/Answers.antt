-- What an accepted call's report and output tell, that a refused one adds nothing, and that calls of `expand` are reported so.
-- Assumes nothing.
use Rattle.refusal.specs.Questions.{answered}
use Rattle.std.specs.Prelude.{Ok, Err}
use mathlib.Core.Path.{◌≡◌, refl, sym, ◌∙◌, ap}
use mathlib.Core.Bool.{Bool, true, false, cond}
use mathlib.Core.List.{[]}
use Prim.Native.Nat.{ℕ}
use native.Mathlib.Omega.{arith}
use lib.ListN.{length, take}
use lib.Seq.{take-append_seam}
use Rattle.lists.specs.Lists.{sum}
use Rattle.refusal.specs.Questions.{Verdict}
use Rattle.refusal.specs.Questions.{Pass}
use Rattle.refusal.specs.Questions.{lent_after}
use Rattle.refusal.proofs.Questions.{number-above-0}
use Rattle.carry.specs.declared.Totals.{Totals}
use Rattle.carry.specs.Energy.{powers}
use Rattle.carry.specs.Carry.{last_carry}
use Rattle.call_request.specs.Request.{quarters, series}
use Rattle.call_expansion.specs.Answered.{reported}
use Rattle.call_expand.specs.Expanding.{expand_check, totals, expansion, output_after}
use Rattle.claim_successive.specs.Reports.{is_accepted, is_expanded, ExpandReports}
use Rattle.claim_successive.specs.SuccessiveCalls.{Call, ByContract, carry_after, figures_of}

-- the report of an answer tells its case
told : (v : Verdict) (t : Totals) → is_accepted (reported (answered v t)) ≡ is_expanded (answered v t)
told (Ok _) t = refl
told (Err r) t = number-above-0 r

-- an accepted call leaves its request's series, and answers what that comes to
pub record Took (c : Call) : Type 0 where
  pub passed : expand_check c.given ≡ Pass
  pub figures_are : figures_of c ≡ series c.given
  pub count_is : c.report.count ≡ length (series c.given)
  pub total_is : c.report.total ≡ sum (series c.given)
  pub carry_is : (k : ℕ) → carry_after k c.report ≡ last_carry c.given.yearly (powers (quarters c.given)) c.given.carry

no-refusal : (v : Verdict) (t : Totals) → is_accepted (reported (answered v t)) ≡ true → v ≡ Pass
no-refusal (Ok _) t h = refl
no-refusal (Err r) t h = let n = number-above-0 r in cc

pub took : (c : Call) → ByContract c → is_accepted c.report ≡ true → Took c
unfolding expansion output_after
took c e h = from (no-refusal (expand_check c.given) (totals c.given) (sym (ap is_accepted e.answers) ∙ h))
  where
    from : expand_check c.given ≡ Pass → Took c
    from p =
        let q = c.given in
        let answer : c.report ≡ reported (Ok (totals q)) = e.answers ∙ ap (λ (v : Verdict). reported (answered v (totals q))) p in
        let after : c.after ≡ lent_after Pass (series q) q.output = e.leaves ∙ ap (λ (v : Verdict). lent_after v (series q) q.output) p in
        record {
          passed = p;
          figures_are = rw answer (ap (take (length (series q))) after ∙ take-append_seam (series q) _);
          count_is = rw answer;
          total_is = rw answer;
          carry_is = λ k. rw answer;
        }

-- a refused call adds nothing and hands its carry on
pub record Adds0 (c : Call) : Type 0 where
  pub figures_are : figures_of c ≡ []
  pub count_is : c.report.count ≡ 0
  pub total_is : c.report.total ≡ 0
  pub carry_is : (k : ℕ) → carry_after k c.report ≡ k

pub adds-nothing : (c : Call) → ByContract c → is_accepted c.report ≡ false → Adds0 c
unfolding expansion
adds-nothing c e h = from (expand_check c.given) e.answers
  where
    from : (v : Verdict) → c.report ≡ reported (answered v (totals c.given)) → Adds0 c
    from (Ok _) answer =
        let yes : is_accepted c.report ≡ true = ap is_accepted answer in
        let z : ◌≡◌ {A = ℕ} 0 1 = cc in
        absurd (omega arith)
    from (Err r) answer =
        record {
          figures_are = rw answer;
          count_is = rw answer;
          total_is = rw answer;
          carry_is = λ k. ap (λ (b : Bool). cond b c.report.carry k) h;
        }

-- what `expand` answered, reported
pub expand-reports : ExpandReports
unfolding ExpandReports expansion
expand-reports q answer after e =
    record {
      reports = record { answers = ap reported e.answers; leaves = e.leaves };
      tells = rw e.answers (told (expand_check q) (totals q));
    }
