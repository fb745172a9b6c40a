-- Demand 3: the parts put together. Assumes nothing.
use Rattle.std.specs.Prelude.{Ok, Err}
use mathlib.Core.Path.{◌≡◌, refl, sym, ◌∙◌, ap}
use mathlib.Core.Bool.{true}
use mathlib.Core.List.{List, [], ◌∷◌}
use Prim.Native.Nat.{ℕ, ◌≤◌}
use lib.ListN.{length}
use Rattle.lists.specs.Lists.{sum, Each}
use Rattle.refusal.specs.Questions.{Verdict}
use Rattle.refusal.specs.Questions.{on_pass}
use Rattle.carry.specs.Carry.{largest_carry, figures, last_carry}
use Rattle.carry.specs.Energy.{Quarter, powers}
use Rattle.carry.proofs.Carry.{carry-small}
use Rattle.call_request.specs.Request.{Request, quarters, series}
use Rattle.call_request.proofs.Sound.{Sound}
use Rattle.call_expand.specs.Expanding.{expand_check, expansion}
use Rattle.claim_successive.specs.Reports.{is_accepted}
use Rattle.claim_successive.specs.SuccessiveCalls.{Call, ByContract, accepted, figures_of, joined_figures, Common, common_of, Successive, IsWhole, SameAsWhole, joined_quarters, NothingJoined, AsDefined, JoinedCalls, SuccessiveCalls}
use Rattle.claim_successive.proofs.Chain.{ComesTo, in-common, comes-to}
use Rattle.claim_successive.proofs.Whole.{quarters-in, all_quarters, covers, joined-accepted, each-sound}
use Rattle.claim_successive.proofs.Answers.{took, expand-reports}
use Rattle.claim_successive.proofs.Runs.{run-within}
use Rattle.claim_successive.proofs.Pieces.{output-alone}

-- nothing is joined of no quarter hours
none-joined : (common : Common) (start : ℕ) (calls : List Call) → ComesTo common start calls → joined_quarters calls ≡ [] → NothingJoined start calls
unfolding figures last_carry sum
none-joined common start calls c e =
    let figs : joined_figures calls ≡ [] = c.figures_are ∙ ap (λ (qs : List Quarter). figures common.yearly (powers qs) start) e in
    record {
      no_figures = figs;
      no_count = c.counts_are ∙ ap length figs;
      no_total = c.totals_are ∙ ap sum figs;
      carry_stays = c.carry_is ∙ ap (λ (qs : List Quarter). last_carry common.yearly (powers qs) start) e;
    }

-- the whole has the quarter hours of the accepted calls
whole-quarters : (common : Common) (start : ℕ) (calls : List Call) (whole : Request) → Each (λ c. Sound c.given) calls → Successive common start calls → IsWhole common start calls whole → quarters whole ≡ all_quarters calls
whole-quarters common start [] whole e s w = absurd w
whole-quarters common start (c ∷ calls) whole e s w =
    quarters-in whole common w.0
    ∙ (rw (w.2, w.3) (sym (covers common start c calls e s).quarters_are))

whole-carry : (common : Common) (start : ℕ) (calls : List Call) (whole : Request) → IsWhole common start calls whole → (common_of whole ≡ common) × (whole.carry ≡ start)
whole-carry common start [] whole w = absurd w
whole-carry common start (c ∷ calls) whole w = (w.0, w.1)

same-as-whole : (common : Common) (start : ℕ) (calls : List Call) (whole : Call) → ComesTo common start calls → ByContract whole → is_accepted whole.report ≡ true → common_of whole.given ≡ common → whole.given.carry ≡ start → quarters whole.given ≡ joined_quarters calls → SameAsWhole start calls whole
same-as-whole common start calls whole c e h same begun q =
    let t = took whole e h in
    let ours = in-common whole.given common start same begun in
    let figs : series whole.given ≡ joined_figures calls = ours.0 ∙ ap (λ (qs : List Quarter). figures common.yearly (powers qs) start) q ∙ sym c.figures_are in
    record {
      figures_join = sym (t.figures_are ∙ figs);
      counts_add = c.counts_are ∙ sym (t.count_is ∙ ap length figs);
      totals_add = c.totals_are ∙ sym (t.total_is ∙ ap sum figs);
      last_carry_is = c.carry_is ∙ sym (t.carry_is start ∙ ours.1 ∙ ap (λ (qs : List Quarter). last_carry common.yearly (powers qs) start) q);
    }

-- each call by itself
as-defined : (c : Call) → ByContract c → AsDefined c
unfolding expansion
as-defined c e = record { answer_is = e.answers; figures_are = by (expand_check c.given) refl }
  where
    by : (v : Verdict) → expand_check c.given ≡ v → figures_of c ≡ on_pass (expand_check c.given) (series c.given) []
    by (Ok _) h = rw h (took c e (rw (e.answers, h))).figures_are
    by (Err r) h = rw (h, e.answers, h)

all-defined : (calls : List Call) → Each ByContract calls → Each AsDefined calls
all-defined [] e = tt
all-defined (c ∷ calls) e = (as-defined c e.0, all-defined calls e.1)

joined : (common : Common) (start : ℕ) (calls : List Call) → start ≤ largest_carry → Each ByContract calls → Successive common start (accepted calls) → JoinedCalls common start calls
joined common start calls small e s =
    let c = comes-to common start calls e s in
    let sound = each-sound calls e in
    let all = joined-accepted calls in
    record {
      defined = all-defined calls e;
      nothing = λ none. none-joined common start calls c (all ∙ ap all_quarters none);
      whole = λ w contract is h.
          let same = whole-carry common start (accepted calls) w.given is in
          same-as-whole common start calls w c contract h same.0 same.1
          (whole-quarters common start (accepted calls) w.given sound s is ∙ sym all);
      figures_are = c.figures_are;
      counts_are = c.counts_are;
      totals_are = c.totals_are;
      carry_is = c.carry_is;
      carry_in_range = rw c.carry_is (carry-small common.yearly start (powers (joined_quarters calls)) small);
      within = λ k n. rw (c.figures_are, all) (run-within common start (accepted calls) small sound s k n);
    }

pub successive-calls : SuccessiveCalls
unfolding SuccessiveCalls
successive-calls = (joined, output-alone, expand-reports)
