-- What successive calls come to, refused ones among them: by turns over the list. Assumes nothing.
use mathlib.Core.Path.{◌≡◌, refl, ◌∙◌, ap}
use mathlib.Core.Bool.{Bool, true, false}
use mathlib.Core.List.{List, [], ◌∷◌, ◌++◌, map-append}
use Prim.Native.Nat.{ℕ}
use native.Mathlib.Omega.{arith}
use lib.ListN.{length, length-append}
use Rattle.lists.specs.Lists.{sum, Each}
use Rattle.lists.proofs.Sums.{sum-append}
use Rattle.carry.specs.Carry.{figures, last_carry}
use Rattle.carry.specs.Energy.{Quarter, powers}
use Rattle.carry.proofs.Carry.{figures-append, carry-append}
use Rattle.call_request.specs.Request.{Request, quarters, series}
use Rattle.claim_successive.specs.Reports.{is_accepted}
use Rattle.claim_successive.specs.SuccessiveCalls.{Call, ByContract, accepted, carry_after, figures_of, joined_figures, added_counts, added_totals, carry_after_all, Common, common_of, Successive, joined_quarters}
use Rattle.claim_successive.proofs.Answers.{took, adds-nothing}

-- what the calls come to, begun with a carry
pub record ComesTo (common : Common) (carry : ℕ) (calls : List Call) : Type 0 where
  pub figures_are : joined_figures calls ≡ figures common.yearly (powers (joined_quarters calls)) carry
  pub counts_are : added_counts calls ≡ length (joined_figures calls)
  pub totals_are : added_totals calls ≡ sum (joined_figures calls)
  pub carry_is : carry_after_all carry calls ≡ last_carry common.yearly (powers (joined_quarters calls)) carry

-- one more call in front, which adds the figures of some quarter hours
one_more : (common : Common) (carry next : ℕ) (c : Call) (calls : List Call) (qs : List Quarter) →
    joined_quarters (c ∷ calls) ≡ qs ++ joined_quarters calls →
    figures_of c ≡ figures common.yearly (powers qs) carry →
    c.report.count ≡ length (figures common.yearly (powers qs) carry) →
    c.report.total ≡ sum (figures common.yearly (powers qs) carry) →
    carry_after carry c.report ≡ next →
    next ≡ last_carry common.yearly (powers qs) carry →
    ComesTo common next calls → ComesTo common carry (c ∷ calls)
unfolding joined_figures added_counts added_totals carry_after_all
one_more common carry next c calls qs quarters_are f n t k l rest =
    let figs = figures common.yearly (powers qs) carry in
    let split : powers (joined_quarters (c ∷ calls)) ≡ powers qs ++ powers (joined_quarters calls) =
    ap powers quarters_are ∙ map-append (λ q. q.power) qs (joined_quarters calls) in
    record {
      figures_are = rw (split, figures-append common.yearly (powers qs) (powers (joined_quarters calls)) carry, f, rest.figures_are, l);
      counts_are = rw (f, length-append figs (joined_figures calls)) (omega (arith, n, rest.counts_are));
      totals_are = rw (f, sum-append figs (joined_figures calls)) (omega (arith, t, rest.totals_are));
      carry_is = rw (split, carry-append common.yearly (powers qs) (powers (joined_quarters calls)) carry, k, ← l) rest.carry_is;
    }

-- a call in front of a list is among the accepted ones, or not
module _ (c : Call) (calls : List Call) where
  pub accepted-yes : is_accepted c.report ≡ true → accepted (c ∷ calls) ≡ c ∷ accepted calls
  unfolding accepted
  accepted-yes h = rw h

  pub accepted-no : is_accepted c.report ≡ false → accepted (c ∷ calls) ≡ accepted calls
  unfolding accepted
  accepted-no h = rw h

  pub quarters-yes : is_accepted c.report ≡ true → joined_quarters (c ∷ calls) ≡ quarters c.given ++ joined_quarters calls
  unfolding joined_quarters
  quarters-yes h = rw h

  pub quarters-no : is_accepted c.report ≡ false → joined_quarters (c ∷ calls) ≡ joined_quarters calls
  unfolding joined_quarters
  quarters-no h = rw h

-- an accepted call's series and carry, in what it has in common with the others
pub in-common : (q : Request) (common : Common) (carry : ℕ) → common_of q ≡ common → q.carry ≡ carry → (series q ≡ figures common.yearly (powers (quarters q)) carry) × (last_carry q.yearly (powers (quarters q)) q.carry ≡ last_carry common.yearly (powers (quarters q)) carry)
unfolding series
in-common q common carry e h =
    let yearly : q.yearly ≡ common.yearly = ap (λ (x : Common). x.yearly) e in
    (rw (yearly, h), rw (yearly, h))

module _ (common : Common) (c : Call) (calls : List Call) (contract : ByContract c) (rest : (k : ℕ) → Successive common k (accepted calls) → ComesTo common k calls) where
  in-front : (b : Bool) → is_accepted c.report ≡ b → (carry : ℕ) → Successive common carry (accepted (c ∷ calls)) → ComesTo common carry (c ∷ calls)
  unfolding Successive figures last_carry sum
  in-front true h carry s =
      let t = took c contract h in
      let front : Successive common carry (c ∷ accepted calls) = rw (accepted-yes c calls h) at s in
      let same = in-common c.given common carry front.0 front.1 in
      one_more common carry (carry_after carry c.report) c calls (quarters c.given) (quarters-yes c calls h)
      (t.figures_are ∙ same.0)
      (t.count_is ∙ ap length same.0)
      (t.total_is ∙ ap sum same.0)
      refl
      (t.carry_is carry ∙ same.1)
      (rest (carry_after carry c.report) front.3)
  in-front false h carry s =
      let nothing = adds-nothing c contract h in
      one_more common carry carry c calls [] (quarters-no c calls h) nothing.figures_are nothing.count_is nothing.total_is (nothing.carry_is carry) refl
      (rest carry (rw (accepted-no c calls h) at s))

pub comes-to : (common : Common) (carry : ℕ) (calls : List Call) → Each ByContract calls → Successive common carry (accepted calls) → ComesTo common carry calls
unfolding joined_figures added_counts added_totals carry_after_all joined_quarters figures last_carry sum
comes-to common carry [] e s = record { figures_are = refl; counts_are = refl; totals_are = refl; carry_is = refl }
comes-to common carry (c ∷ calls) e s =
    in-front common c calls e.0 (λ k s. comes-to common k calls e.1 s) (is_accepted c.report) refl carry s
