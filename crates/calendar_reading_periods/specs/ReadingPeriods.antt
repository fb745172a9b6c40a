-- Document 02, (c): "1 to 48 adjacent reading periods", given by their first dates inside a span: what is asked of them, and the periods.
use Rattle.std.specs.Prelude.{cond, ◌&&◌, List, [], ◌∷◌, ℕ, ◌-◌, leb, ltb, eqb, length, get_or}
use Rattle.refusal.specs.declared.Refusal.TheVariants.{WrongReadings, BadFirstDate}
use Rattle.refusal.specs.Questions.{Verdict}
use Rattle.refusal.specs.Questions.{ask, ask_each}
use Rattle.calendar_dates.specs.Dates.{date_of, number_of, is_date, day_number, days_later}

-- "first dates not 1 to 48, or metered values of another number, 17": of how many first dates and metered values there are
unfoldable pub readings_question : ℕ → ℕ → Verdict
readings_question dates values = ask (leb 1 dates && leb dates 48 && eqb values dates) WrongReadings

-- "first dates not real, not strictly rising inside that span, or not begun at its start, 18, place = index": of one first date,
-- `first` and `last` being the span's dates (that none lies before `first` follows where those before it passed)
unfoldable pub first_date_question : ℕ → ℕ → List ℕ → ℕ → Verdict
first_date_question first last starts index =
    ask
    (is_date (date_of (get_or starts index 0))
    && cond (eqb index 0) (eqb (get_or starts 0 0) first) (ltb (get_or starts (index - 1) 0) (get_or starts index 0))
    && (leb first (get_or starts index 0) && leb (get_or starts index 0) last))
    (BadFirstDate index)

unfoldable pub first_dates_question : ℕ → ℕ → List ℕ → Verdict
first_dates_question first last starts = ask_each (first_date_question first last starts) 1 (length starts) 0

-- a reading period, both dates included
pub record ReadingPeriod : Type 0 where
  pub first : ℕ
  pub last : ℕ

-- "adjacent": a period that begins on `start` ends the day before the next first date, and the last one with the span
unfoldable pub end_of : ℕ → ℕ → List ℕ → ℕ
end_of last start [] = last
end_of last start (next ∷ starts) =
    number_of (days_later (day_number (date_of next) - day_number (date_of start) - 1) (date_of start))

-- the periods of some first dates, in their order
unfoldable pub reading_periods : ℕ → List ℕ → List ReadingPeriod
reading_periods last [] = []
reading_periods last (start ∷ starts) = record { first = start; last = end_of last start starts } ∷ reading_periods last starts
