-- Document 01, "The answer holds the count, the total in Wh .. and the last carry", and "A refusal gives number, place and zeros
-- elsewhere": what expanding answers, and the numbers for each case of the answer.
use Rattle.std.specs.Prelude.{Result, Ok, Err}
use Rattle.refusal.specs.declared.Refusal.{Refusal}
use Rattle.refusal.specs.Questions.{refusal_number, refusal_place}
use Rattle.carry.specs.declared.Totals.{Totals}
use Rattle.call_expansion.specs.declared.ExpansionReport.{ExpansionReport}

-- what expanding answers, or the first question that did not pass
abbrev pub Expansion : Type 0
Expansion = Result Totals Refusal

-- the numbers for each case of the answer: an accepted call has number and place 0; "A refusal gives number, place and zeros
-- elsewhere"
abbrev pub reported : Expansion → ExpansionReport
reported (Ok t) =
    record { number = 0; place = 0; count = t.count; total = t.total; carry = t.carry }
reported (Err r) = record { number = refusal_number r; place = refusal_place r; count = 0; total = 0; carry = 0 }
