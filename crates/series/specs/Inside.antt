-- What the functions of this crate require, which expanding, the lines of days and the deliveries show, and what they promise.
-- No definition of document 01.
use Rattle.std.specs.Prelude.{◌≡◌, List, [], ◌∷◌, ◌++◌, ℕ, ◌≤◌, length, drop, get_or, map}
use Rattle.lists.specs.Lists.{sum, Each}
use Rattle.calendar_dates.specs.declared.Date.{Date}
use Rattle.calendar_dates.specs.Dates.{number_of}
use Rattle.calendar_days.specs.declared.DayKind.{DayKind}
use Rattle.calendar_days.specs.Days.{day_kind}
use Rattle.carry.specs.declared.Totals.{Totals}
use Rattle.carry.specs.Carry.{largest_use, largest_carry, figures, last_carry}

-- a group's values: 864, none above 20,000
pub record GroupValues (values : List ℕ) : Type 0 where
  pub whole : length values ≡ 864
  pub small : (i : ℕ) → get_or values i 0 ≤ 20_000

-- a yearly use and a carry in range
pub record InRange (yearly carry : ℕ) : Type 0 where
  pub yearly_small : yearly ≤ largest_use
  pub carry_small : carry ≤ largest_carry

-- what some powers come to: how many they are, the sum of their figures, begun with a carry, and the carry that they leave
abbrev pub comes_to : ℕ → List ℕ → ℕ → Totals
comes_to yearly powers carry = record { count = length powers; total = sum (figures yearly powers carry); carry = last_carry yearly powers carry }

-- the figures of some powers fill the output from its start, and these are their totals
pub record Filled (yearly : ℕ) (powers : List ℕ) (carry : ℕ) (out : List ℕ) (r : Totals) (after : List ℕ) : Type 0 where
  pub stored : after ≡ figures yearly powers carry ++ drop (length powers) out
  pub totals : r ≡ comes_to yearly powers carry

-- each date with its season and day type, by a list of holidays
abbrev pub with_kinds : List ℕ → List Date → List (Date × DayKind)
with_kinds holidays dates = map (λ d. (d, day_kind d holidays)) dates

-- no date is earlier than one before it
abbrev pub DatesNotFalling : List Date → Type 0
DatesNotFalling [] = Unit {0}
DatesNotFalling (d ∷ dates) = Each (λ later. number_of d ≤ number_of later) dates × DatesNotFalling dates
