-- The days of a year in the calendar's order, and those of them that are wanted. No definitions of document 02.
use Rattle.std.specs.Prelude.{cond, List, [], ◌∷◌, Option, Some, None, ℕ, ◌/◌, ◌%◌, ◌≤◌, eqb}
use Rattle.lists.specs.Lists.{Each}
use Rattle.calendar_dates.specs.Dates.{number_of}
use Rattle.calendar_movable_days.specs.Counted.{on}
use Rattle.calendar_movable_days.specs.Easter.{easter_sunday}
use Rattle.calendar_movable_days.specs.Repentance.{repentance}
use Rattle.calendar_public_holidays.specs.Days.{good_friday, easter_monday, ascension, whit_sunday, whit_monday, corpus_christi}

-- a regional day is wanted where its bit, the last one of this number, is 1
abbrev pub regional : ℕ → ℕ → Option ℕ
regional bits date = cond (eqb (bits % 2) 1) (Some date) None

-- the seventeen days in the calendar's order, each as its date or, where it is not wanted, as `None`
unfoldable pub calendar_days : ℕ → ℕ → List (Option ℕ)
calendar_days year choice =
    Some (number_of (on year 1 1))
    ∷ regional choice (number_of (on year 1 6))
    ∷ Some (number_of (good_friday year))
    ∷ Some (number_of (easter_sunday year))
    ∷ Some (number_of (easter_monday year))
    ∷ Some (number_of (on year 5 1))
    ∷ Some (number_of (ascension year))
    ∷ Some (number_of (whit_sunday year))
    ∷ Some (number_of (whit_monday year))
    ∷ regional (choice / 2) (number_of (corpus_christi year))
    ∷ regional (choice / 4) (number_of (on year 8 15))
    ∷ Some (number_of (on year 10 3))
    ∷ regional (choice / 8) (number_of (on year 10 31))
    ∷ regional (choice / 16) (number_of (on year 11 1))
    ∷ regional (choice / 32) (number_of (repentance year))
    ∷ Some (number_of (on year 12 25))
    ∷ Some (number_of (on year 12 26))
    ∷ []

-- the dates that are wanted
abbrev pub wanted : List (Option ℕ) → List ℕ
wanted [] = []
wanted (None ∷ days) = wanted days
wanted (Some date ∷ days) = date ∷ wanted days

-- no date comes before an earlier one
abbrev pub NotFalling : List ℕ → Type 0
NotFalling [] = Unit {0}
NotFalling (date ∷ dates) = Each (λ later. date ≤ later) dates × NotFalling dates
