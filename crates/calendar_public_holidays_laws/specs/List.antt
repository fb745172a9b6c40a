-- What the holiday list of a year has, in every year of the span and for every choice. Proved in proofs/List.antt.
use Rattle.std.specs.Prelude.{◌≡◌, Bool, false, ◌&&◌, ◌||◌, List, map, ℕ, ◌+◌, ◌/◌, ◌%◌, ◌^◌, ◌≤◌, eqb, length}
use Rattle.lists.specs.Lists.{Rising}
use Rattle.refusal.specs.Questions.{Pass}
use Rattle.calendar_dates.specs.Dates.{number_of}
use Rattle.calendar_holidays.specs.Holidays.{listed, holidays_question}
use Rattle.calendar_movable_days.specs.Counted.{on}
use Rattle.calendar_movable_days.specs.Repentance.{repentance}
use Rattle.calendar_public_holidays.specs.Days.{corpus_christi, federal_days}
use Rattle.calendar_public_holidays.specs.YearHolidays.{year_holidays, lists_from}

-- bit k of the choice
abbrev pub bit : ℕ → ℕ → Bool
bit k choice = eqb ((choice / 2 ^ k) % 2) 1

-- a date is one of the chosen days: a federal one, or a regional one whose bit is set
unfoldable pub is_chosen : ℕ → ℕ → ℕ → Bool
is_chosen year choice date =
    listed date (map number_of (federal_days year))
    || (bit 0 choice && eqb (number_of (on year 1 6)) date)
    || (bit 1 choice && eqb (number_of (corpus_christi year)) date)
    || (bit 2 choice && eqb (number_of (on year 8 15)) date)
    || (bit 3 choice && eqb (number_of (on year 10 31)) date)
    || (bit 4 choice && eqb (number_of (on year 11 1)) date)
    || (bit 5 choice && eqb (number_of (repentance year)) date)

-- a list without the 24 and 31 December of any year
pub record NoEves (dates : List ℕ) : Type 0 where
  pub no_christmas_eve : (year : ℕ) → listed (number_of (on year 12 24)) dates ≡ false
  pub no_new_years_eve : (year : ℕ) → listed (number_of (on year 12 31)) dates ≡ false

pub record ListFacts (year choice : ℕ) : Type 0 where
  -- a date stands in the list exactly when it is one of the chosen days
  pub has_chosen : (date : ℕ) → listed date (year_holidays year choice) ≡ is_chosen year choice date
  -- "A date met twice, as 1 May 2008, is listed once."
  pub rising : Rising (year_holidays year choice)
  pub at_least : 10 ≤ length (year_holidays year choice)
  pub at_most : length (year_holidays year choice) ≤ 17
  -- it has no 24 or 31 December, which document 02, (b), leaves Saturdays where they are unlisted and no Sundays
  pub no_eves : NoEves (year_holidays year choice)
  -- "Every list given passes question 9."
  pub passes : holidays_question (year_holidays year choice) ≡ Pass

unfoldable pub EveryList : Type 0
EveryList = (year choice : ℕ) → 1996 ≤ year → year ≤ 2099 → ListFacts year choice

-- nor have the lists of several years, one behind the other. Proved in proofs/Eves.antt.
unfoldable pub JoinedNoEves : Type 0
JoinedNoEves = (year n choice : ℕ) → 1996 ≤ year → year + n ≤ 2100 → NoEves (lists_from year n choice)
