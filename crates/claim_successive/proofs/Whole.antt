-- The quarter hours of successive accepted calls are those of the whole period: by turns over the accepted calls. Assumes nothing.
use mathlib.Core.Path.{◌≡◌, refl, ◌∙◌, ap}
use mathlib.Core.Bool.{Bool, true, false}
use mathlib.Core.List.{List, [], ◌∷◌, ◌++◌, append-nil}
use Prim.Native.Nat.{ℕ, ◌≤◌}
use Rattle.lists.specs.Lists.{Each}
use Rattle.calendar_dates.specs.declared.Date.{Date}
use Rattle.calendar_dates.specs.Dates.{date_of, day_number, next_day}
use Rattle.calendar_period.specs.Period.{days_of}
use Rattle.file_group.specs.Group.{table_of}
use Rattle.carry.specs.Energy.{Quarter}
use Rattle.day_powers.specs.DayQuarters.{Basis, basis, day_quarters}
use Rattle.series.specs.Series.{quarters_of_days}
use Rattle.series_laws.proofs.Adjoining.{two-periods, in_order}
use Rattle.call_request.specs.Request.{Request, days_in, quarters}
use Rattle.call_request.proofs.Sound.{Sound}
use Rattle.call_expand.proofs.Expanding.{request-sound}
use Rattle.claim_successive.specs.Reports.{is_accepted}
use Rattle.claim_successive.specs.SuccessiveCalls.{Call, ByContract, accepted, carry_after, Common, common_of, Successive, last_of, joined_quarters}
use Rattle.claim_successive.proofs.Chain.{accepted-yes, accepted-no, quarters-yes, quarters-no}
use Rattle.claim_successive.proofs.Answers.{took}

-- the quarter hours of n days, in what the calls have in common
abbrev basis_in : Common → Basis
basis_in common = basis (table_of common.file common.group) common.group common.holidays

abbrev pub quarters_in : Common → ℕ → Date → List Quarter
quarters_in common n d = quarters_of_days (day_quarters (basis_in common)) n d

pub quarters-in : (q : Request) (common : Common) → common_of q ≡ common → quarters q ≡ quarters_in common (days_in q) (date_of q.first)
quarters-in q common e = ap (λ (x : Common). quarters_in x (days_in q) (date_of q.first)) e

-- the quarter hours of accepted calls
abbrev pub all_quarters : List Call → List Quarter
all_quarters [] = []
all_quarters (c ∷ calls) = quarters c.given ++ all_quarters calls

-- from the first date of the first call to the last date of the last one
pub record Covers (common : Common) (c : Call) (calls : List Call) : Type 0 where
  pub quarters_are : all_quarters (c ∷ calls) ≡ quarters_in common (days_of (date_of c.given.first) (date_of (last_of c calls).given.last)) (date_of c.given.first)
  pub ordered : day_number (date_of c.given.first) ≤ day_number (date_of (last_of c calls).given.last)

pub covers : (common : Common) (carry : ℕ) (c : Call) (calls : List Call) → Each (λ c. Sound c.given) (c ∷ calls) → Successive common carry (c ∷ calls) → Covers common c calls
unfolding Successive
covers common carry c [] e s =
    record {
      quarters_are = append-nil (quarters c.given) ∙ quarters-in c.given common s.0;
      ordered = e.0.period.ordered;
    }
covers common carry c (next ∷ calls) e s =
    let rest = covers common (carry_after carry c.report) next calls e.1 s.3 in
    let here = e.0.period in
    let first = date_of c.given.first in
    let last = date_of c.given.last in
    let end = date_of (last_of next calls).given.last in
    let begins : date_of next.given.first ≡ next_day last = s.2 in
    let later : day_number (next_day last) ≤ day_number end = rw (← begins) rest.ordered in
    let quarters_are : all_quarters (next ∷ calls) ≡ quarters_in common (days_of (next_day last) end) (next_day last) = rw (← begins) rest.quarters_are in
    record {
      quarters_are =
          rw (quarters-in c.given common s.0, quarters_are)
          (two-periods (day_quarters (basis_in common)) first last end here.dates-first here.dates-last here.ordered later);
      ordered = in_order (day_quarters (basis_in common)) first last end here.dates-first here.dates-last here.ordered later;
    }

-- the calls of a list, with the accepted ones alone
in-front : (c : Call) (calls : List Call) → joined_quarters calls ≡ all_quarters (accepted calls) → (b : Bool) → is_accepted c.report ≡ b → joined_quarters (c ∷ calls) ≡ all_quarters (accepted (c ∷ calls))
in-front c calls rest true h = rw (accepted-yes c calls h, quarters-yes c calls h, rest)
in-front c calls rest false h = rw (accepted-no c calls h, quarters-no c calls h) rest

pub joined-accepted : (calls : List Call) → joined_quarters calls ≡ all_quarters (accepted calls)
unfolding joined_quarters accepted
joined-accepted [] = refl
joined-accepted (c ∷ calls) = in-front c calls (joined-accepted calls) (is_accepted c.report) refl

-- the accepted calls' requests passed their questions
sound-front : (c : Call) (calls : List Call) → ByContract c → Each (λ c. Sound c.given) (accepted calls) → (b : Bool) → is_accepted c.report ≡ b → Each (λ c. Sound c.given) (accepted (c ∷ calls))
sound-front c calls e rest true h = rw (accepted-yes c calls h) (request-sound c.given (took c e h).passed, rest)
sound-front c calls e rest false h = rw (accepted-no c calls h) rest

pub each-sound : (calls : List Call) → Each ByContract calls → Each (λ c. Sound c.given) (accepted calls)
unfolding accepted
each-sound [] e = tt
each-sound (c ∷ calls) e = sound-front c calls e.0 (each-sound calls e.1) (is_accepted c.report) refl
