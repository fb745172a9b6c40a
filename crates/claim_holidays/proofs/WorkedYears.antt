-- The worked years, computed. Assumes nothing.
use mathlib.Core.Path.{refl}
use Rattle.calendar_dates.specs.Dates.{leap_days, month_length, days_of_months, day_of_year, days_of_years, day_number, weekday_of, next_day, days_later}
use Rattle.calendar_movable_days.specs.Counted.{march_day, days_until}
use Rattle.calendar_movable_days.specs.Easter.{golden_number, century, solar_correction, lunar_correction, cycle_epact, epact, paschal_full_moon, easter_day}
use Rattle.calendar_public_holidays.specs.YearHolidays.{chosen, chosen_days, inserted, in_order, year_holidays}
use Rattle.claim_holidays.specs.WorkedYears.{WorkedYears}

pub worked-years : WorkedYears
unfolding leap_days month_length days_of_months day_of_year days_of_years day_number weekday_of next_day days_later golden_number century solar_correction lunar_correction cycle_epact epact paschal_full_moon march_day days_until easter_day chosen chosen_days inserted in_order year_holidays
worked-years =
    record {
      full_moon_1997 = refl;
      year_1997 = refl;
      year_2000 = refl;
      year_2008 = refl;
      ascension_2008 = refl;
      once_2008 = refl;
      year_2038 = refl;
      exception_2049 = (refl, refl);
      year_2049 = refl;
      exception_2076 = (refl, refl);
      year_2076 = refl;
      no_exception_1886 = (refl, refl);
      full_moon_1886 = refl;
      earliest = (refl, (refl, (refl, (refl, (refl, (refl, tt))))));
      repentance_2016 = refl;
      federal_2000 = refl;
      corpus_christi_2000 = refl;
      all_2000 = refl;
    }
