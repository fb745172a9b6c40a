-- The marked days and figures, shown of the definitions: each is computed, and a series has as many quarter hours as its days
-- have values.
-- Assumes nothing.
use mathlib.Core.Path.{refl, ◌∙◌}
use Rattle.calendar_dates.specs.Dates.{leap_days, month_length, days_of_months, day_of_year, days_of_years, day_number, weekday_of, next_day}
use Rattle.calendar_holidays.specs.Holidays.{listed}
use Rattle.calendar_days.specs.Days.{from, to, season, is_eve, day_type_when, last_sunday, clock}
use Rattle.calendar_days.proofs.ClockChanges.{clock-changes}
use Rattle.calendar_period.specs.Period.{value_count_of_days}
use Rattle.dynamisation.specs.Dynamisation.{household_x, X, F, Q}
use Rattle.carry.specs.Carry.{figures, last_carry}
use Rattle.series.proofs.Series.{length-quarters}
use Rattle.claim_marked.specs.MarkedFigures.{MarkedFigures}

pub marked-figures : MarkedFigures
unfolding household_x X F Q leap_days month_length days_of_months day_of_year days_of_years day_number weekday_of next_day from to season listed is_eve day_type_when last_sunday clock value_count_of_days figures last_carry
marked-figures =
    record {
      t_1 = record { exact = refl; rounded = refl };
      t_202 = record { exact = refl; rounded = refl };
      t_365 = record { exact = refl; rounded = refl };
      t_366 = record { exact = refl; rounded = refl };
      half = refl;
      march_20 = λ year. refl;
      march_21 = λ year. refl;
      may_14 = λ year. refl;
      may_15 = λ year. refl;
      september_14 = λ year. refl;
      september_15 = λ year. refl;
      october_31 = λ year. refl;
      november_1 = λ year. refl;
      leap_day = refl;
      leap_day-t = refl;
      christmas_eve = record { is_weekday = refl; is_season = refl; is_day_type = refl };
      year_end = record { is_weekday = refl; is_season = refl; is_day_type = refl };
      listed_christmas_eve = record { is_weekday = refl; is_season = refl; is_day_type = refl };
      listed_new_years_eve = record { is_weekday = refl; is_season = refl; is_day_type = refl };
      sunday_eve = record { is_weekday = refl; is_season = refl; is_day_type = refl };
      listed_sunday_eve = record { is_weekday = refl; is_season = refl; is_day_type = refl };
      listed_saturday = record { is_weekday = refl; is_season = refl; is_day_type = refl };
      new_years_eve = record { is_weekday = refl; is_season = refl; is_day_type = refl };
      clock_forward = refl;
      clock_back = refl;
      year_2000 = refl;
      series_forward = λ b h. length-quarters b 1 _ h ∙ refl;
      series_back = λ b h. length-quarters b 1 _ h ∙ refl;
      series_2000 = λ b h. length-quarters b 366 _ h ∙ refl;
      clock_changes = clock-changes;
      carry_step = refl;
      carry_left = refl;
    }
