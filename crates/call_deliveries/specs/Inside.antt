-- What the inner functions promise. No definition of document 02.
use Rattle.std.specs.Prelude.{List, [], ◌∷◌, ℕ, ℤ}
use Rattle.lists.specs.Lists.{sum}
use Rattle.calendar_period.specs.Period.{PeriodDays}
use Rattle.carry.specs.Carry.{figures, last_carry}
use Rattle.carry.specs.Energy.{powers}
use Rattle.day_powers.specs.DayQuarters.{Basis, day_quarters}
use Rattle.series.specs.Series.{quarters_of_days}
use Rattle.call_deliveries.specs.Deliveries.{difference}

-- the powers of a period
abbrev pub powers_in : Basis → PeriodDays → List ℕ
powers_in b p = powers (quarters_of_days (day_quarters b) p.days p.first)

-- the differences of some periods, begun with a carry
unfoldable pub differences_from : Basis → ℕ → List ℕ → List PeriodDays → ℕ → List ℤ
differences_from b yearly [] periods carry = []
differences_from b yearly (kWh ∷ metered) [] carry = []
differences_from b yearly (kWh ∷ metered) (p ∷ periods) carry =
    difference kWh (sum (figures yearly (powers_in b p) carry))
    ∷ differences_from b yearly metered periods (last_carry yearly (powers_in b p) carry)
