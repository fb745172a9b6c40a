-- Any run of the joined figures keeps to its bound: a run's figures are those of its own quarter hours, begun with the carry that
-- the ones before leave, and each quarter hour is rounded as its day's are. Assumes nothing.
use mathlib.Core.Path.{◌≡◌, refl, sym, ◌∙◌, ap}
use mathlib.Core.Bool.{cond}
use mathlib.Core.List.{List, [], ◌∷◌}
use Prim.Native.Nat.{ℕ, zero, suc, ◌≤◌, ◌<◌}
use native.Mathlib.Omega.{arith}
use lib.Dec.{eqb}
use lib.ListN.{take, drop}
use borrow.Author.Tests.{ne_eqb}
use Rattle.lists.specs.Lists.{sum, Each}
use Rattle.lists.proofs.Parts.{map-take, map-drop}
use Rattle.lists.proofs.Members.{each_append, each_take, each-drop}
use Rattle.calendar_dates.specs.declared.Date.{Date}
use Rattle.calendar_dates.specs.Dates.{date_of, day_of_year, days_later}
use Rattle.calendar_dates.proofs.Dates.{leap-small, day-of-year-range}
use Rattle.calendar_laws.proofs.Periods.{period-days}
use Rattle.carry.specs.Carry.{largest_carry, figures, last_carry}
use Rattle.carry.specs.Energy.{Quarter, powers, exact_sum, Rounded, Within, household_bound, other_bound, Unrounded, Bounded}
use Rattle.carry.proofs.Carry.{carry-small, figures-take, figures-drop}
use Rattle.carry.proofs.Energy.{bounded}
use Rattle.day_powers.specs.DayQuarters.{Basis, basis, day_quarters}
use Rattle.day_powers.proofs.DayQuarters.{day-rounded, day-undynamised}
use Rattle.series.proofs.Series.{each-quarter}
use Rattle.call_request.specs.Request.{Request, days_in, basis_of, quarters}
use Rattle.call_request.proofs.Sound.{Sound}
use Rattle.claim_successive.specs.SuccessiveCalls.{Call, carry_after, Common, Successive, run}
use Rattle.claim_successive.proofs.Whole.{all_quarters}

-- the figures of a run
run-figures : (yearly start k n : ℕ) (qs : List Quarter) → run k n (figures yearly (powers qs) start) ≡ figures yearly (powers (run k n qs)) (last_carry yearly (take k (powers qs)) start)
run-figures yearly start k n qs =
    ap (take n) (figures-drop yearly k (powers qs) start)
    ∙ figures-take yearly n (drop k (powers qs)) (last_carry yearly (take k (powers qs)) start)
    ∙ (rw (map-take (λ q. q.power) n (drop k qs), map-drop (λ q. q.power) k qs))

-- a day of an accepted request is a day of its year
on-day : (q : Request) → Sound q → (k : ℕ) → k < days_in q → (1 ≤ day_of_year (days_later k (date_of q.first))) × (day_of_year (days_later k (date_of q.first)) ≤ 366)
on-day q s k h =
    let d = days_later k (date_of q.first) in
    let p = s.period in
    let range = day-of-year-range d ((period-days (date_of q.first) (date_of q.last) p.dates-first p.dates-last p.ordered).dates k h) in
    (range.0, omega (arith, range.1, leap-small d.year))

-- how an accepted request's quarter hours are rounded
quarters-rounded : (q : Request) → Sound q → Each Rounded (quarters q)
quarters-rounded q s =
    each-quarter (day_quarters (basis_of q)) Rounded (days_in q) (date_of q.first)
    (λ k h. let t = on-day q s k h in day-rounded (basis_of q) (days_later k (date_of q.first)) t.0 t.1)

day-not-dynamised : (b : Basis) (above : ℕ) (d : Date) → b.group ≡ suc above → Each Unrounded (day_quarters b d)
day-not-dynamised b above d e =
    ap-each (sym e) (day-undynamised b.values above b.holidays d)
  where
    ap-each : {group : ℕ} → suc above ≡ group → Each Unrounded (day_quarters (basis b.values (suc above) b.holidays) d) → Each Unrounded (day_quarters (basis b.values group b.holidays) d)
    ap-each h a = rw h at a

quarters-undynamised : (q : Request) (above : ℕ) → q.group ≡ suc above → Each Unrounded (quarters q)
quarters-undynamised q above e =
    each-quarter (day_quarters (basis_of q)) Unrounded (days_in q) (date_of q.first)
    (λ k h. day-not-dynamised (basis_of q) above (days_later k (date_of q.first)) e)

-- and those of successive requests
all_have : (property : Quarter → Type 0) (calls : List Call) → Each (λ c. Each property (quarters c.given)) calls → Each property (all_quarters calls)
all_have property [] e = tt
all_have property (c ∷ calls) e =
    each_append property (quarters c.given) (all_quarters calls) e.0 (all_have property calls e.1)

all-rounded : (calls : List Call) → Each (λ c. Sound c.given) calls → Each (λ c. Each Rounded (quarters c.given)) calls
all-rounded [] e = tt
all-rounded (c ∷ calls) e = (quarters-rounded c.given e.0, all-rounded calls e.1)

all-undynamised : (common : Common) (carry group : ℕ) (calls : List Call) → common.group ≡ suc group → Successive common carry calls → Each (λ c. Each Unrounded (quarters c.given)) calls
unfolding Successive
all-undynamised common carry group [] e s = tt
all-undynamised common carry group (c ∷ calls) e s = (
  quarters-undynamised c.given group (ap (λ (x : Common). x.group) s.0 ∙ e),
  all-undynamised common (carry_after carry c.report) group calls e s.3,
)

-- the bound of a run of quarter hours, by the group
module _ (common : Common) (start : ℕ) (calls : List Call) (small : start ≤ largest_carry) (e : Each (λ c. Sound c.given) calls) (s : Successive common start calls) (k n : ℕ) where
  part : List Quarter
  part = run k n (all_quarters calls)

  begun : ℕ
  begun = last_carry common.yearly (take k (powers (all_quarters calls))) start

  in-range : begun ≤ largest_carry
  unfolding begun
  in-range = carry-small common.yearly start (take k (powers (all_quarters calls))) small

  part-has : (property : Quarter → Type 0) → Each property (all_quarters calls) → Each property part
  unfolding part
  part-has property a = each_take property n (drop k (all_quarters calls)) (each-drop property k (all_quarters calls) a)

  by-group : (group : ℕ) → common.group ≡ group → Within (cond (eqb group 0) (household_bound common.yearly part) other_bound) (exact_sum common.yearly part) (sum (figures common.yearly (powers part) begun))
  unfolding Bounded
  by-group zero h = (bounded common.yearly begun part in-range).0 (part-has Rounded (all_have Rounded calls (all-rounded calls e)))
  by-group (suc group) h =
      rw (ne_eqb (suc group) 0 (λ z. omega arith))
      ((bounded common.yearly begun part in-range).1
      (part-has Unrounded (all_have Unrounded calls (all-undynamised common start group calls h s))))

  pub run-within : Within (cond (eqb common.group 0) (household_bound common.yearly (run k n (all_quarters calls))) other_bound) (exact_sum common.yearly (run k n (all_quarters calls))) (sum (run k n (figures common.yearly (powers (all_quarters calls)) start)))
  unfolding part begun
  run-within = rw (run-figures common.yearly start k n (all_quarters calls)) (by-group common.group refl)
