-- Document 02, (c), "Over and under deliveries": what the call is given, what is asked of it, and what it leaves in the lent output,
-- accepted and refused.
use Rattle.std.specs.Prelude.{◌≡◌, List, [], ◌∷◌, ℕ, ◌*◌, ℤ, pos, ◌-ℤ◌, length}
use Rattle.refusal.specs.Questions.{Verdict}
use Rattle.refusal.specs.declared.CheckReport.{CheckReport}
use Rattle.refusal.specs.Questions.{reported, ◌then◌, room_question, lent_after}
use Rattle.calendar_holidays.specs.Holidays.{holidays_question}
use Rattle.calendar_period.specs.Period.{period_check}
use Rattle.calendar_reading_periods.specs.ReadingPeriods.{readings_question, first_dates_question, ReadingPeriod, reading_periods}
use Rattle.call_request.specs.Request.{Request, request, use_question, ahead_of_period}
use Rattle.call_expand.specs.Expanding.{totals}
use Rattle.call_deliveries.specs.declared.readings.Readings.{Readings}

-- what a call is given: the lent file, the wanted group, the whole span's first and last date, the first dates of the "1 to 48 adjacent
-- reading periods of one customer, their metered kWh", the holiday list, "the yearly use", and the lent output as it was before
pub record Deliveries : Type 0 where
  pub file : List ℕ
  pub group : ℕ
  pub first : ℕ
  pub last : ℕ
  pub starts : List ℕ
  pub metered : List ℕ
  pub holidays : List ℕ
  pub yearly : ℕ
  pub output : List ℤ

abbrev pub deliveries : List ℕ → ℕ → ℕ → ℕ → List ℕ → List ℕ → List ℕ → ℕ → List ℤ → Deliveries
deliveries file group first last starts metered holidays yearly output =
    record {
      file = file;
      group = group;
      first = first;
      last = last;
      starts = starts;
      metered = metered;
      holidays = holidays;
      yearly = yearly;
      output = output;
    }

-- the same of a call's arguments, with the lent output as it was before
abbrev pub asked : Readings → List ℤ → Deliveries
asked call output =
    deliveries call.file.now call.group call.first call.last call.starts.now call.metered.now call.holidays.now call.yearly output

-- "the whole span's series": the request for it, begun with carry 0
abbrev pub whole_span : Deliveries → Request
whole_span d = request d.file d.group d.first d.last d.holidays d.yearly 0 []

-- the request for one period of a whole, begun with a carry
abbrev pub of_period : Request → ReadingPeriod → ℕ → Request
of_period whole period carry =
    request whole.file whole.group period.first period.last whole.holidays whole.yearly carry []

-- "the series with the carry running through": each period is begun with the carry that the one before it left
unfoldable pub carried_through : Request → List ReadingPeriod → ℕ → List Request
carried_through whole [] carry = []
carried_through whole (period ∷ periods) carry =
    of_period whole period carry ∷ carried_through whole periods (totals (of_period whole period carry)).carry

-- the requests by whose series the periods are balanced: "from 0"
abbrev pub balanced_periods : Deliveries → List Request
balanced_periods d = carried_through (whole_span d) (reading_periods d.last d.starts) 0

-- "metered energy minus balanced energy in Wh", equation 4.8: A1 - A0. "The result is signed: positive when the customer drew more."
abbrev pub difference : ℕ → ℕ → ℤ
difference metered balanced = pos (1_000 * metered) -ℤ pos balanced

-- "for each period"; question 17 has refused lists of other lengths
unfoldable pub differences_of : List ℕ → List Request → List ℤ
differences_of [] periods = []
differences_of (kWh ∷ metered) [] = []
differences_of (kWh ∷ metered) (period ∷ periods) = difference kWh (totals period).total ∷ differences_of metered periods

abbrev pub differences : Deliveries → List ℤ
differences d = differences_of d.metered (balanced_periods d)

-- "after 8 for the whole span": 17 and 18, then 9, 10 and 12, "with 12 counting differences"; of `metered` and `room` entries
abbrev pub behind_span : ℕ → ℕ → List ℕ → ℕ → List ℕ → ℕ → ℕ → Verdict
behind_span first last starts metered holidays yearly room =
    readings_question (length starts) metered then first_dates_question first last starts then holidays_question holidays
    then use_question yearly
    then room_question (length starts) room

-- "Expanding's questions but 11": 1 to 8 before them
unfoldable pub deliveries_check : Deliveries → Verdict
deliveries_check d =
    ahead_of_period d.file d.group then period_check d.first d.last
    then behind_span d.first d.last d.starts (length d.metered) d.holidays d.yearly (length d.output)

-- the lent output after the call
unfoldable pub output_after : Deliveries → List ℤ
output_after d = lent_after (deliveries_check d) (differences d) d.output

-- the contract: what the call answered, also in numbers, and its output afterwards
pub record Delivers (d : Deliveries) (answer : Verdict) (after : List ℤ) : Type 0 where
  pub answers : answer ≡ deliveries_check d
  pub reports : reported answer ≡ reported (deliveries_check d)
  pub leaves : after ≡ output_after d

-- the contract of the exported call: its report, and the output afterwards
pub record Reports (d : Deliveries) (report : CheckReport) (after : List ℤ) : Type 0 where
  pub answers : report ≡ reported (deliveries_check d)
  pub leaves : after ≡ output_after d
