-- Document 01, question 9, and "a listed holiday".
use Rattle.std.specs.Prelude.{Bool, false, ◌&&◌, ◌||◌, List, [], ◌∷◌, ℕ, ◌-◌, ltb, eqb, length, get_or}
use Rattle.refusal.specs.declared.Refusal.TheVariants.{BadHoliday}
use Rattle.refusal.specs.Questions.{Verdict}
use Rattle.refusal.specs.Questions.{ask, ask_each}
use Rattle.calendar_dates.specs.Dates.{date_of, is_date}

-- "a listed holiday"
unfoldable pub listed : ℕ → List ℕ → Bool
listed date [] = false
listed date (holiday ∷ holidays) = eqb holiday date || listed date holidays

-- 9. "Is the list in order?": "place = index of the first entry that is no date of the span or not later than the one before;
-- entry index 400 is itself at fault"
unfoldable pub holiday_question : List ℕ → ℕ → Verdict
holiday_question holidays index =
    ask
    (ltb index 400 && is_date (date_of (get_or holidays index 0))
    && (eqb index 0 || ltb (get_or holidays (index - 1) 0) (get_or holidays index 0)))
    (BadHoliday index)

unfoldable pub holidays_question : List ℕ → Verdict
holidays_question holidays = ask_each (holiday_question holidays) 1 (length holidays) 0
