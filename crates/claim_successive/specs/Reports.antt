-- Expanding as it is called from outside: it answers document 01's numbers, number, place, count, total and carry.
use Rattle.std.specs.Prelude.{Ok, Err}
use Rattle.std.specs.Prelude.{◌≡◌, Bool, true, false, List, ℕ, eqb}
use Rattle.call_request.specs.Request.{Request}
use Rattle.call_expansion.specs.Answered.{Expansion}
use Rattle.call_expansion.specs.declared.ExpansionReport.{ExpansionReport}
use Rattle.call_expansion.specs.Answered.{reported}
use Rattle.call_expand.specs.Expanding.{Expands, Reports}

-- a call is accepted where its report's number is 0
abbrev pub is_accepted : ExpansionReport → Bool
is_accepted report = eqb report.number 0

-- the case of `expand`'s own answer
abbrev pub is_expanded : Expansion → Bool
is_expanded (Ok t) = true
is_expanded (Err r) = false

-- a call of `expand`, reported, is such a call, and its report tells whether it was accepted
pub record AsReported (q : Request) (answer : Expansion) (after : List ℕ) : Type 0 where
  pub reports : Reports q (reported answer) after
  pub tells : is_accepted (reported answer) ≡ is_expanded answer

-- The theorem, of every call that keeps to the contract of `call_expand::expand`. Proved in proofs/Answers.antt.
unfoldable pub ExpandReports : Type 0
ExpandReports = (q : Request) (answer : Expansion) (after : List ℕ) → Expands q answer after → AsReported q answer after
