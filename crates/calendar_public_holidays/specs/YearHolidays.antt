-- Document 02, (a): "For a year and a choice of the regional days, give the holiday list and its length."
use Rattle.std.specs.Prelude.{cond, List, [], ◌∷◌, ◌++◌, map, ℕ, zero, suc, ◌+◌, ◌/◌, ◌%◌, ltb, eqb}
use Rattle.calendar_dates.specs.Dates.{number_of}
use Rattle.calendar_public_holidays.specs.Days.{federal_days, regional_days}

-- "The choice is a byte, bits 0 to 5 for the regional days in that paper's order.": bit 0 for the first of the days
unfoldable pub chosen : {A : Type 0} → ℕ → List A → List A
chosen choice [] = []
chosen choice (d ∷ days) = cond (eqb (choice % 2) 1) (d ∷ chosen (choice / 2) days) (chosen (choice / 2) days)

-- the federal days and the chosen ones of the regional days, as numbers yyyymmdd
unfoldable pub chosen_days : ℕ → ℕ → List ℕ
chosen_days year choice = map number_of (federal_days year ++ chosen choice (regional_days year))

-- a date put in front of the first one that is later; "A date met twice, as 1 May 2008, is listed once."
unfoldable pub inserted : ℕ → List ℕ → List ℕ
inserted date [] = date ∷ []
inserted date (next ∷ dates) =
    cond (ltb date next) (date ∷ next ∷ dates) (cond (eqb date next) (next ∷ dates) (next ∷ inserted date dates))

-- the dates in rising order, each once
unfoldable pub in_order : List ℕ → List ℕ
in_order [] = []
in_order (date ∷ dates) = inserted date (in_order dates)

-- the holiday list
unfoldable pub year_holidays : ℕ → ℕ → List ℕ
year_holidays year choice = in_order (chosen_days year choice)

-- the lists of n years one behind the other, from a year on, for a period that touches several
unfoldable pub lists_from : ℕ → ℕ → ℕ → List ℕ
lists_from year zero choice = []
lists_from year (suc n) choice = year_holidays year choice ++ lists_from (year + 1) n choice
