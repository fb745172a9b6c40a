-- The worked periods and questions, by computation. Assumes nothing.
use mathlib.Core.Path.{refl}
use Rattle.refusal.specs.Questions.{ask_each}
use Rattle.calendar_dates.specs.Dates.{leap_days, month_length, is_date, days_of_months, day_of_year, days_of_years, day_number, next_day, days_later}
use Rattle.calendar_reading_periods.specs.ReadingPeriods.{readings_question, first_date_question, first_dates_question, end_of, reading_periods}
use Rattle.claim_deliveries.specs.WorkedPeriods.{WorkedPeriods}

pub worked-periods : WorkedPeriods
unfolding readings_question first_date_question first_dates_question end_of reading_periods ask_each leap_days month_length is_date days_of_months day_of_year days_of_years day_number next_day days_later
worked-periods =
    record {
      days = refl;
      months = refl;
      last_days = refl;
      none = refl;
      most = refl;
      too_many = refl;
      other_number = refl;
      in_order = refl;
      not_real = refl;
      not_rising = refl;
      twice = refl;
      behind = refl;
      not_at_start = refl;
    }
