-- Laws of a period's quarter hours: a day more, two periods joined, a property of each of them, and how many they are.
-- By induction over the days. Assumes nothing.
use mathlib.Core.Path.{◌≡◌, refl, ◌∙◌}
use mathlib.Core.List.{List, ◌++◌, append_assoc}
use Prim.Native.Nat.{ℕ, zero, suc, ◌+◌, ◌<◌}
use native.Mathlib.Nat.{zero-add, suc-add}
use native.Mathlib.Omega.{arith}
use lib.ListN.{length, length-append}
use Rattle.lists.specs.Lists.{Each}
use Rattle.lists.proofs.Members.{each_append}
use Rattle.calendar_dates.specs.declared.Date.{Date}
use Rattle.calendar_dates.specs.Dates.{next_day, days_later}
use Rattle.calendar_period.specs.Period.{value_count_of_days}
use Rattle.carry.specs.Energy.{Quarter}
use Rattle.day_powers.specs.DayQuarters.{Basis, day_quarters}
use Rattle.day_powers.proofs.DayQuarters.{length-day-quarters}
use Rattle.series.specs.Series.{quarters_of_days}

module _ (day : Date → List Quarter) where
  -- a period after a period
  pub quarters-add : (n m : ℕ) (d : Date) → quarters_of_days day (n + m) d ≡ quarters_of_days day n d ++ quarters_of_days day m (days_later n d)
  unfolding quarters_of_days days_later
  quarters-add zero m d = rw zero-add
  quarters-add (suc n) m d =
      rw (suc-add, append_assoc (day d), quarters-add n m (next_day d))

  -- what each day's quarter hours have
  pub each-quarter : (property : Quarter → Type 0) (n : ℕ) (d : Date) → ((k : ℕ) → k < n → Each property (day (days_later k d))) → Each property (quarters_of_days day n d)
  unfolding quarters_of_days days_later
  each-quarter property zero d h = tt
  each-quarter property (suc n) d h =
      each_append property (day d) (quarters_of_days day n (next_day d)) (h 0 (omega arith))
      (each-quarter property n (next_day d) (λ k l. h (suc k) (omega arith)))

-- "entries needed": as many quarter hours as the days have values
pub length-quarters : (b : Basis) (n : ℕ) (d : Date) → length b.values ≡ 864 → length (quarters_of_days (day_quarters b) n d) ≡ value_count_of_days n d
unfolding quarters_of_days value_count_of_days
length-quarters b zero d h = refl
length-quarters b (suc n) d h =
    length-append (day_quarters b d) _
    ∙ (rw (length-day-quarters b d h, length-quarters b n (next_day d) h))
