-- No list has a 24 or 31 December, since none of its dates is one. Assumes nothing.
use mathlib.Core.Path.{◌≡◌, refl}
use mathlib.Core.Bool.{false}
use mathlib.Core.List.{List, [], ◌∷◌}
use Prim.Native.Nat.{ℕ, zero, suc, ◌+◌, ◌≤◌}
use native.Mathlib.Omega.{arith}
use borrow.Author.Tests.{ne_eqb}
use Rattle.lists.specs.Lists.{Each}
use Rattle.lists.proofs.Members.{each_append}
use Rattle.calendar_dates.specs.Dates.{number_of}
use Rattle.calendar_holidays.specs.Holidays.{listed}
use Rattle.calendar_movable_days.specs.Counted.{on}
use Rattle.calendar_movable_days.specs.Inside.{InSpan}
use Rattle.calendar_public_holidays.specs.YearHolidays.{year_holidays, lists_from}
use Rattle.calendar_public_holidays_laws.specs.List.{NoEves, JoinedNoEves}
use Rattle.calendar_public_holidays_laws.proofs.Entries.{Other, each-other}

no-entry : (date : ℕ) → ((n : ℕ) → Other n → n ≡ date → ⊥) → (dates : List ℕ) → Each Other dates → listed date dates ≡ false
unfolding listed
no-entry date differs [] e = refl
no-entry date differs (n ∷ dates) e = rw (ne_eqb n date (differs n e.0), no-entry date differs dates e.1)

without : (dates : List ℕ) → Each Other dates → NoEves dates
without dates e =
    record {
      no_christmas_eve = λ year. no-entry (number_of (on year 12 24)) (λ n other same. other.no_christmas_eve (omega (arith, same))) dates e;
      no_new_years_eve = λ year. no-entry (number_of (on year 12 31)) (λ n other same. other.no_new_years_eve (omega (arith, same))) dates e;
    }

pub no-eves : (year choice : ℕ) → InSpan year → NoEves (year_holidays year choice)
no-eves year choice s = without (year_holidays year choice) (each-other year choice s)

joined : (year n choice : ℕ) → 1996 ≤ year → year + n ≤ 2100 → Each Other (lists_from year n choice)
unfolding lists_from
joined year zero choice from to = tt
joined year (suc n) choice from to =
    each_append Other (year_holidays year choice) (lists_from (year + 1) n choice) (each-other year choice (record { from = from; to = omega arith }))
    (joined (year + 1) n choice (omega arith) (omega arith))

pub joined-no-eves : JoinedNoEves
unfolding JoinedNoEves
joined-no-eves year n choice from to = without (lists_from year n choice) (joined year n choice from to)
