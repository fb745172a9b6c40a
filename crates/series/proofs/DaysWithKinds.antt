-- The days of a period with their kinds: no date is earlier than one before it, and what a list of holidays says of the later dates
-- stays. Assumes nothing.
use Rattle.std.proofs.Common.{◌≡◌, ℕ, zero, suc, ◌-◌, ◌≤◌, Bool, List, [], ◌∷◌, arith}
use Rattle.lists.specs.Lists.{Each}
use Rattle.calendar_dates.specs.declared.Date.{Date}
use Rattle.calendar_dates.specs.Dates.{number_of, next_day, AllDates}
use Rattle.calendar_dates.proofs.Later.{all_first, all-next}
use Rattle.calendar_dates.proofs.NextDay.{next-day-counts}
use Rattle.calendar_holidays.specs.Holidays.{listed}
use Rattle.calendar_days.specs.declared.DayKind.{DayKind}
use Rattle.calendar_days.specs.Days.{season, day_type_when}
use Rattle.calendar_period.specs.Period.{dates_from}
use Rattle.series.specs.Inside.{with_kinds, DatesNotFalling}

-- the dates from one on are none of them earlier than what it is not earlier than
after : (k n : ℕ) (d : Date) → AllDates n d → k ≤ number_of d → Each (λ (later : Date). k ≤ number_of later) (dates_from n d)
after k zero d all h = tt
after k (suc n) d all h =
    let one : suc n - 1 ≡ n = omega arith in
    let next = (next-day-counts d (all_first (suc n) d all (omega arith))).later in
    (h, after k n (next_day d) (rw one at (all-next (suc n) d all)) (omega (arith, next)))

pub not_falling : (n : ℕ) (d : Date) → AllDates n d → DatesNotFalling (dates_from n d)
not_falling zero d all = tt
not_falling (suc n) d all =
    let one : suc n - 1 ≡ n = omega arith in
    let rest = rw one at (all-next (suc n) d all) in
    let next = (next-day-counts d (all_first (suc n) d all (omega arith))).later in
    (after (number_of d) n (next_day d) rest (omega (arith, next)), not_falling n (next_day d) rest)

-- a list that says of the later dates what another says gives them the same kinds
same_kinds : (holidays ahead : List ℕ) (from : ℕ) (dates : List Date) → ((later : ℕ) → from ≤ later → listed later ahead ≡ listed later holidays) →
    Each (λ (later : Date). from ≤ number_of later) dates → with_kinds holidays dates ≡ with_kinds ahead dates
same_kinds holidays ahead from [] same h = λ i. []
same_kinds holidays ahead from (d ∷ dates) same h =
    rw (same (number_of d) h.0, same_kinds holidays ahead from dates same h.1)

-- the first of some dates with its kind, and the others
pub first_day : (holidays ahead : List ℕ) {dates rest : List Date} {d : Date} {kind : DayKind} {holiday : Bool} {number : ℕ} →
    DatesNotFalling dates → dates ≡ d ∷ rest → number ≡ number_of d → holiday ≡ listed number holidays →
    ((later : ℕ) → number ≤ later → listed later ahead ≡ listed later holidays) →
    kind ≡ record { season = season d; day_type = day_type_when d holiday } →
    with_kinds holidays dates ≡ (d, kind) ∷ with_kinds ahead rest
first_day holidays ahead {rest = rest} {d = d} rises e n h same k =
    let first = rw e at rises in
    rw (e, k, h, n, same_kinds holidays ahead (number_of d) rest (rw n at same) first.0)
