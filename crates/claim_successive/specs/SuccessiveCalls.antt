-- Demand 3, with document 01's "Series and carry": one claim about a list of expanding calls.
use Rattle.refusal.specs.Questions.{answered}
use Rattle.std.specs.Prelude.{◌≡◌, true, cond, List, [], ◌∷◌, ◌++◌, ℕ, ◌+◌, ◌≤◌, eqb, length, take, drop}
use Rattle.lists.specs.Lists.{sum, Each}
use Rattle.refusal.specs.Questions.{Pass}
use Rattle.refusal.specs.Questions.{room_question, on_pass}
use Rattle.calendar_dates.specs.Dates.{date_of, next_day}
use Rattle.carry.specs.Energy.{Quarter, powers, exact_sum, Within, household_bound, other_bound}
use Rattle.carry.specs.Carry.{largest_carry, figures, last_carry}
use Rattle.call_request.specs.Request.{Request, quarters, series, request_check}
use Rattle.call_expansion.specs.Answered.{Expansion}
use Rattle.call_expansion.specs.declared.ExpansionReport.{ExpansionReport}
use Rattle.call_expansion.specs.Answered.{reported}
use Rattle.call_expand.specs.Expanding.{expand_check, totals, expansion, Reports}
use Rattle.claim_successive.specs.Pieces.{PieceOfPeriod}
use Rattle.claim_successive.specs.Reports.{is_accepted, ExpandReports}

-- The calls.

-- a call of expanding: what it was given, the report that it answered, and its output afterwards
pub record Call : Type 0 where
  pub given : Request
  pub report : ExpansionReport
  pub after : List ℕ

-- its result is what the contract of the exported call gives; by `ExpandReports` the calls of `expand` are among these
abbrev pub ByContract : Call → Type 0
ByContract c = Reports c.given c.report c.after

-- the accepted ones of a list, in its order
unfoldable pub accepted : List Call → List Call
accepted [] = []
accepted (c ∷ calls) = cond (is_accepted c.report) (c ∷ accepted calls) (accepted calls)

-- What a list of calls comes to.

-- the carry after a call: that of an accepted one; of a refused one "its zeros are not handed on"
abbrev pub carry_after : ℕ → ExpansionReport → ℕ
carry_after carry report = cond (is_accepted report) report.carry carry

-- "Figures are taken as each call leaves them"
abbrev pub figures_of : Call → List ℕ
figures_of c = take c.report.count c.after

-- "and joined in the order of the calls; counts and totals are added as whole numbers"
unfoldable pub joined_figures : List Call → List ℕ
joined_figures [] = []
joined_figures (c ∷ calls) = figures_of c ++ joined_figures calls

unfoldable pub added_counts : List Call → ℕ
added_counts [] = 0
added_counts (c ∷ calls) = c.report.count + added_counts calls

unfoldable pub added_totals : List Call → ℕ
added_totals [] = 0
added_totals (c ∷ calls) = c.report.total + added_totals calls

unfoldable pub carry_after_all : ℕ → List Call → ℕ
carry_after_all carry [] = carry
carry_after_all carry (c ∷ calls) = carry_after_all (carry_after carry c.report) calls

-- The assumption, on the accepted calls alone.

-- "The accepted calls in it agree in everything they are given except period, carry and output."
pub record Common : Type 0 where
  pub file : List ℕ
  pub group : ℕ
  pub holidays : List ℕ
  pub yearly : ℕ

abbrev pub common_of : Request → Common
common_of q = record { file = q.file; group = q.group; holidays = q.holidays; yearly = q.yearly }

-- "let each after the first begin on the day after the accepted one before it ended"
abbrev pub NextBegins : Call → List Call → Type 0
NextBegins c [] = Unit {0}
NextBegins c (next ∷ calls) = date_of next.given.first ≡ next_day (date_of c.given.last)

-- "The first accepted call is given that one, each later one the carry that the accepted call before it returned"
unfoldable pub Successive : Common → ℕ → List Call → Type 0
Successive common carry [] = Unit {0}
Successive common carry (c ∷ calls) =
    (common_of c.given ≡ common) × (c.given.carry ≡ carry) × NextBegins c calls
    × Successive common (carry_after carry c.report) calls

-- The whole.

abbrev pub last_of : Call → List Call → Call
last_of c [] = c
last_of c (next ∷ calls) = last_of next calls

-- "The whole is one call from the first accepted period's first date to the last one's last date, with the starting carry, an
-- output of its own and all else the same."
abbrev pub IsWhole : Common → ℕ → List Call → Request → Type 0
IsWhole common start [] whole = ⊥
IsWhole common start (c ∷ calls) whole =
    (common_of whole ≡ common) × (whole.carry ≡ start) × (whole.first ≡ c.given.first)
    × (whole.last ≡ (last_of c calls).given.last)

-- "the joined figures, added counts, added totals and last carry are exactly those of one call for the whole period"
pub record SameAsWhole (start : ℕ) (calls : List Call) (whole : Call) : Type 0 where
  pub figures_join : joined_figures calls ≡ figures_of whole
  pub counts_add : added_counts calls ≡ whole.report.count
  pub totals_add : added_totals calls ≡ whole.report.total
  pub last_carry_is : carry_after_all start calls ≡ carry_after start whole.report

-- A run.

-- the quarter hours of the joined figures: "P and X are those of each quarter hour's own position and day, after the clock
-- changes"
unfoldable pub joined_quarters : List Call → List Quarter
joined_quarters [] = []
joined_quarters (c ∷ calls) = cond (is_accepted c.report) (quarters c.given) [] ++ joined_quarters calls

-- "any consecutive n quarter hours": those after the first k
abbrev pub run : {A : Type 0} → ℕ → ℕ → List A → List A
run k n joined = take n (drop k joined)

-- "less than 1 Wh + its static energy (factor left out) / 20,000 + n × A / 80,000 Wh for households, and by less than 1 Wh for
-- all others"
abbrev pub bound_of : Common → List Quarter → ℕ
bound_of common part = cond (eqb common.group 0) (household_bound common.yearly part) other_bound

-- the run's sum and its exact energy, from n quarter hours after the first k
abbrev pub RunWithin : Common → List Call → ℕ → ℕ → Type 0
RunWithin common calls k n =
    Within (bound_of common (run k n (joined_quarters calls))) (exact_sum common.yearly (run k n (joined_quarters calls)))
    (sum (run k n (joined_figures calls)))

-- "With no call accepted nothing is joined, and the starting carry stays."
pub record NothingJoined (start : ℕ) (calls : List Call) : Type 0 where
  pub no_figures : joined_figures calls ≡ []
  pub no_count : added_counts calls ≡ 0
  pub no_total : added_totals calls ≡ 0
  pub carry_stays : carry_after_all start calls ≡ start

-- "every call's answer and figures are those that document 01 defines"
pub record AsDefined (c : Call) : Type 0 where
  pub answer_is : c.report ≡ reported (expansion c.given)
  pub figures_are : figures_of c ≡ on_pass (expand_check c.given) (series c.given) []

-- what is claimed of a list of calls
pub record JoinedCalls (common : Common) (start : ℕ) (calls : List Call) : Type 0 where
  pub defined : Each AsDefined calls
  pub nothing : accepted calls ≡ [] → NothingJoined start calls
  pub whole : (c : Call) → ByContract c → IsWhole common start (accepted calls) c.given → is_accepted c.report ≡ true → SameAsWhole start calls c
  -- the joined figures, counts, totals and last carry are those that documents 01 and 02 define, also past 1,461 days
  pub figures_are : joined_figures calls ≡ figures common.yearly (powers (joined_quarters calls)) start
  pub counts_are : added_counts calls ≡ length (joined_figures calls)
  pub totals_are : added_totals calls ≡ sum (joined_figures calls)
  pub carry_is : carry_after_all start calls ≡ last_carry common.yearly (powers (joined_quarters calls)) start
  pub carry_in_range : carry_after_all start calls ≤ largest_carry
  pub within : (k n : ℕ) → RunWithin common calls k n

-- A piece.

-- "A piece is a call for one or more successive days of an accepted whole", "all else but the output the same". Its carry is any in
-- range, so also the one that is handed on.
pub record Piece (whole piece : Request) : Type 0 where
  pub days : PieceOfPeriod whole.first whole.last piece.first piece.last
  pub same : common_of piece ≡ common_of whole
  pub carry_in_range : piece.carry ≤ largest_carry

-- "it passes every question but 12, and 12 where its own output is long enough"
unfoldable pub piece_answer : Request → Expansion
piece_answer piece = answered (room_question (length (series piece)) (length piece.output)) (totals piece)

pub record OutputAlone (piece : Call) : Type 0 where
  pub others : request_check piece.given ≡ Pass
  pub answer_is : expansion piece.given ≡ piece_answer piece.given
  pub report_is : piece.report ≡ reported (piece_answer piece.given)

-- The theorem. Proved in proofs/SuccessiveCalls.antt.
unfoldable pub SuccessiveCalls : Type 0
SuccessiveCalls =
    ((common : Common) (start : ℕ) (calls : List Call) →
    start ≤ largest_carry → Each ByContract calls → Successive common start (accepted calls) → JoinedCalls common start calls)
    × ((whole piece : Call) → ByContract whole → is_accepted whole.report ≡ true →
    ByContract piece → Piece whole.given piece.given → OutputAlone piece)
    × ExpandReports
