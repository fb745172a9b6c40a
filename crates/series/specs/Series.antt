-- Document 01, "Series and carry": a period's quarter hours. Their figures are `figures`, and the carry they leave is `last_carry`,
-- of their powers.
use Rattle.std.specs.Prelude.{List, [], ◌++◌, ℕ, zero, suc}
use Rattle.calendar_dates.specs.declared.Date.{Date}
use Rattle.calendar_dates.specs.Dates.{next_day}
use Rattle.carry.specs.Energy.{Quarter}

-- the quarter hours of n days from a date on, one day after the other, whichever quarter hours a day has
unfoldable pub quarters_of_days : (Date → List Quarter) → ℕ → Date → List Quarter
quarters_of_days day zero d = []
quarters_of_days day (suc n) d = day d ++ quarters_of_days day n (next_day d)
