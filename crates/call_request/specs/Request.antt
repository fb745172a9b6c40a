-- Document 01, "Series and carry" and questions 1 to 11: what a call of expanding is given, the series that it asks for, and what is
-- asked of it.
use Rattle.std.specs.Prelude.{List, ℕ, leb}
use Rattle.refusal.specs.declared.Refusal.TheVariants.{BadUse, BadCarry}
use Rattle.refusal.specs.Questions.{Verdict}
use Rattle.refusal.specs.Questions.{ask, ◌then◌}
use Rattle.call_request.specs.declared.request.Request.{Request as Arguments}
use Rattle.calendar_dates.specs.Dates.{date_of}
use Rattle.calendar_holidays.specs.Holidays.{holidays_question}
use Rattle.calendar_period.specs.Period.{days_of, period_check}
use Rattle.file_group.specs.Group.{check, table_of}
use Rattle.carry.specs.Energy.{Quarter, powers}
use Rattle.carry.specs.Carry.{largest_use, largest_carry, figures}
use Rattle.day_powers.specs.DayQuarters.{Basis, basis, day_quarters}
use Rattle.series.specs.Series.{quarters_of_days}

-- what a call is given: the lent file, the wanted group, first and last date, the holiday list, the yearly use A in kWh, the carry
-- and the lent output as it was before
pub record Request : Type 0 where
  pub file : List ℕ
  pub group : ℕ
  pub first : ℕ
  pub last : ℕ
  pub holidays : List ℕ
  pub yearly : ℕ
  pub carry : ℕ
  pub output : List ℕ

abbrev pub request : List ℕ → ℕ → ℕ → ℕ → List ℕ → ℕ → ℕ → List ℕ → Request
request file group first last holidays yearly carry output =
    record {
      file = file;
      group = group;
      first = first;
      last = last;
      holidays = holidays;
      yearly = yearly;
      carry = carry;
      output = output;
    }

-- the same of a call's arguments, with the lent output as it was before
abbrev pub asked : Arguments → List ℕ → Request
asked call output =
    request call.file.now call.group call.first call.last call.holidays.now call.yearly call.carry output

-- the number of days of the period
abbrev pub days_in : Request → ℕ
days_in q = days_of (date_of q.first) (date_of q.last)

-- what its quarter hours are made from
abbrev pub basis_of : Request → Basis
basis_of q = basis (table_of q.file q.group) q.group q.holidays

-- the period's quarter hours, and the series: their figures
abbrev pub quarters : Request → List Quarter
quarters q = quarters_of_days (day_quarters (basis_of q)) (days_in q) (date_of q.first)

unfoldable pub series : Request → List ℕ
series q = figures q.yearly (powers (quarters q)) q.carry

-- 10. "Is A within its range?": "whole kWh, 0 to 1,000,000,000"
unfoldable pub use_question : ℕ → Verdict
use_question yearly = ask (leb yearly largest_use) BadUse

-- 11. "Is the carry within its range?": "0 to 39,999"
unfoldable pub carry_question : ℕ → Verdict
carry_question carry = ask (leb carry largest_carry) BadCarry

-- what is asked of the file and the group, ahead of the period: questions 1 to 6
abbrev pub ahead_of_period : List ℕ → ℕ → Verdict
ahead_of_period file group = check file group

-- what is asked of the holiday list, the yearly use and the carry, behind the period: questions 9 to 11
abbrev pub behind_period : List ℕ → ℕ → ℕ → Verdict
behind_period holidays yearly carry = holidays_question holidays then use_question yearly then carry_question carry

-- the period, and what is asked behind it: questions 7 to 11
abbrev pub from_period_on : ℕ → ℕ → List ℕ → ℕ → ℕ → Verdict
from_period_on first last holidays yearly carry = period_check first last then behind_period holidays yearly carry

-- questions 1 to 11
abbrev pub request_check : Request → Verdict
request_check q =
    ahead_of_period q.file q.group then from_period_on q.first q.last q.holidays q.yearly q.carry
