-- What each way through expanding comes to, over a request. Assumes nothing.
use Rattle.refusal.specs.Questions.{answered}
use Rattle.std.specs.Prelude.{Ok, Err}
use mathlib.Core.Path.{◌≡◌, ◌∙◌, ap}
use mathlib.Core.List.{List}
use Prim.Native.Nat.{ℕ}
use lib.ListN.{length}
use Rattle.refusal.specs.declared.Refusal.{Refusal}
use Rattle.refusal.specs.Questions.{Verdict}
use Rattle.refusal.specs.Questions.{Pass}
use Rattle.refusal.specs.Questions.{room_question}
use Rattle.refusal.proofs.Questions.{then-pass, refused-first, room-enough, then-first}
use Rattle.carry.specs.declared.Totals.{Totals}
use Rattle.carry.specs.Energy.{powers}
use Rattle.carry.proofs.Carry.{length-figures}
use Rattle.series.specs.Inside.{Filled}
use Rattle.call_request.specs.Request.{Request, quarters, series, request_check}
use Rattle.call_request.proofs.Sound.{Sound, sound}
use Rattle.call_expansion.specs.Answered.{Expansion}
use Rattle.call_expansion.specs.Answered.{reported}
use Rattle.call_expand.specs.Expanding.{expand_check, totals, expansion, output_after, lent, IsExpanded, Expands}

module _ (q : Request) where
  refused : {r : Refusal} {answer : Expansion} → answer ≡ Err r → expand_check q ≡ Err r → Expands q answer q.output
  unfolding expansion output_after
  refused a e = rw a (record { answers = rw e; reports = rw e; leaves = rw e })

  -- by questions 1 to 11
  pub request-refused : {r : Refusal} {answer : Expansion} → answer ≡ Err r → request_check q ≡ Err r → Expands q answer q.output
  unfolding expand_check
  request-refused a e = refused a (refused-first _ e)

  -- by question 12
  pub room-refused : {r : Refusal} {answer : Expansion} → answer ≡ Err r → request_check q ≡ Pass →
      room_question (length (series q)) (length q.output) ≡ Err r → Expands q answer q.output
  unfolding expand_check
  room-refused a p e = refused a (then-pass _ p ∙ e)

  -- by none
  pub expanded : {t : Totals} {after : List ℕ} → request_check q ≡ Pass → room_question (length (series q)) (length q.output) ≡ Pass →
      Filled q.yearly (powers (quarters q)) q.carry q.output t after → Expands q (Ok t) after
  unfolding expand_check expansion output_after series
  expanded {t} {after} p r f =
      let pass : expand_check q ≡ Pass = then-pass (room_question (length (series q)) (length q.output)) p ∙ r in
      let n = length-figures q.yearly (powers (quarters q)) q.carry in
      let answer : Ok t ≡ expansion q = rw (pass, f.totals, n) in
      record { answers = answer; reports = ap reported answer; leaves = rw (pass, f.stored, n) }

-- what a call that was not refused is known to be
pub request-sound : (q : Request) → expand_check q ≡ Pass → Sound q
unfolding expand_check
request-sound q h = sound q (then-first (request_check q) _ h)

-- what is answered where the questions before 12 pass and the output lent is long enough
pub expanded-in : (q : Request) → request_check q ≡ Pass → IsExpanded q
unfolding expansion expand_check series
expanded-in q p output room =
    let pass : expand_check (lent q output) ≡ Pass = then-pass _ p ∙ room-enough _ _ room in
    ap (λ (v : Verdict). answered v (totals q)) pass
