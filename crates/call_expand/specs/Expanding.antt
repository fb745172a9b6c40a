-- Document 01, "Series and carry" and "Expanding has questions 1 to 12": what a call of expanding answers, and what it leaves in the
-- lent output, accepted and refused.
use Rattle.refusal.specs.Questions.{answered}
use Rattle.std.specs.Prelude.{Ok}
use Rattle.std.specs.Prelude.{◌≡◌, List, ℕ, ◌≤◌, length}
use Rattle.lists.specs.Lists.{sum}
use Rattle.refusal.specs.Questions.{Verdict}
use Rattle.refusal.specs.Questions.{◌then◌, room_question, lent_after}
use Rattle.carry.specs.declared.Totals.{Totals}
use Rattle.carry.specs.Carry.{last_carry}
use Rattle.carry.specs.Energy.{powers}
use Rattle.call_request.specs.Request.{Request, request, quarters, series, request_check}
use Rattle.call_expansion.specs.Answered.{Expansion}
use Rattle.call_expansion.specs.declared.ExpansionReport.{ExpansionReport}
use Rattle.call_expansion.specs.Answered.{reported}

-- questions 1 to 12
unfoldable pub expand_check : Request → Verdict
expand_check q = request_check q then room_question (length (series q)) (length q.output)

-- "The answer holds the count, the total in Wh (the sum of the figures) and the last carry"
abbrev pub totals : Request → Totals
totals q =
    record {
      count = length (series q);
      total = sum (series q);
      carry = last_carry q.yearly (powers (quarters q)) q.carry;
    }

unfoldable pub expansion : Request → Expansion
expansion q = answered (expand_check q) (totals q)

-- the lent output after the call
unfoldable pub output_after : Request → List ℕ
output_after q = lent_after (expand_check q) (series q) q.output

-- the same request, lent another output
abbrev pub lent : Request → List ℕ → Request
lent q output = request q.file q.group q.first q.last q.holidays q.yearly q.carry output

-- expanding, lent an output that is long enough, accepts a request and answers its totals
abbrev pub IsExpanded : Request → Type 0
IsExpanded q = (output : List ℕ) → length (series q) ≤ length output → expansion (lent q output) ≡ Ok (totals q)

-- the contract of expanding: what it answered, also in document 01's numbers, and its output afterwards
pub record Expands (q : Request) (answer : Expansion) (after : List ℕ) : Type 0 where
  pub answers : answer ≡ expansion q
  pub reports : reported answer ≡ reported (expansion q)
  pub leaves : after ≡ output_after q

-- the contract of the exported call: its report, and the output afterwards
pub record Reports (q : Request) (report : ExpansionReport) (after : List ℕ) : Type 0 where
  pub answers : report ≡ reported (expansion q)
  pub leaves : after ≡ output_after q
