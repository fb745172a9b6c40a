-- Document 02, (c): reading periods and their questions, worked out.
use Rattle.std.specs.Prelude.{Err}
use Rattle.std.specs.Prelude.{◌≡◌, [], ◌∷◌, ℕ}
use Rattle.refusal.specs.declared.Refusal.TheVariants.{WrongReadings, BadFirstDate}
use Rattle.refusal.specs.Questions.{Pass}
use Rattle.calendar_reading_periods.specs.ReadingPeriods.{readings_question, first_dates_question, ReadingPeriod, reading_periods}

infix 90 from◌to◌
abbrev pub from◌to◌ : ℕ → ℕ → ReadingPeriod
from first to last = record { first = first; last = last }

-- Proved in proofs/WorkedPeriods.antt.
pub record WorkedPeriods : Type 0 where
  -- three days, each by itself; half a January, a leap February, two months in one; the last days of the calendar
  pub days : reading_periods 20000326 (20000324 ∷ 20000325 ∷ 20000326 ∷ []) ≡ from 20000324 to 20000324 ∷ from 20000325 to 20000325 ∷ from 20000326 to 20000326 ∷ []
  pub months : reading_periods 20000430 (20000115 ∷ 20000201 ∷ 20000301 ∷ []) ≡ from 20000115 to 20000131 ∷ from 20000201 to 20000229 ∷ from 20000301 to 20000430 ∷ []
  pub last_days : reading_periods 20991231 (20991230 ∷ 20991231 ∷ []) ≡ from 20991230 to 20991230 ∷ from 20991231 to 20991231 ∷ []
  -- "first dates not 1 to 48, or metered values of another number"
  pub none : readings_question 0 0 ≡ Err WrongReadings
  pub most : readings_question 48 48 ≡ Pass
  pub too_many : readings_question 49 49 ≡ Err WrongReadings
  pub other_number : readings_question 2 3 ≡ Err WrongReadings
  -- "first dates not real, not strictly rising inside that span, or not begun at its start", "place = index": the first one at fault counts
  pub in_order : first_dates_question 20000324 20000326 (20000324 ∷ 20000326 ∷ []) ≡ Pass
  pub not_real : first_dates_question 20000201 20000331 (20000201 ∷ 20000230 ∷ 20000301 ∷ []) ≡ Err (BadFirstDate 1)
  pub not_rising : first_dates_question 20000324 20000326 (20000324 ∷ 20000326 ∷ 20000325 ∷ []) ≡ Err (BadFirstDate 2)
  pub twice : first_dates_question 20000324 20000326 (20000324 ∷ 20000324 ∷ []) ≡ Err (BadFirstDate 1)
  pub behind : first_dates_question 20000324 20000326 (20000324 ∷ 20000327 ∷ 20000230 ∷ []) ≡ Err (BadFirstDate 1)
  pub not_at_start : first_dates_question 20000324 20000326 (20000325 ∷ []) ≡ Err (BadFirstDate 0)
