-- The worked lines and questions compute. Assumes nothing.
use mathlib.Core.Path.{refl}
use Rattle.calendar_dates.specs.Dates.{leap_days, month_length, days_of_months, day_of_year, days_of_years, day_number, weekday_of}
use Rattle.calendar_holidays.specs.Holidays.{listed}
use Rattle.calendar_days.specs.Days.{from, to, season, is_eve, day_type_when}
use Rattle.text.specs.Text.{digits}
use Rattle.text_columns.specs.Columns.{right_aligned}
use Rattle.text_page_lines.specs.PageLines.{page_line}
use Rattle.call_page.specs.Page.{page_question}
use Rattle.claim_page.specs.WorkedPage.{WorkedPage}

pub worked-page : WorkedPage
unfolding page_line right_aligned digits page_question leap_days month_length days_of_months day_of_year days_of_years day_number weekday_of from to season listed is_eve day_type_when
worked-page = record { saturday = refl; sunday = refl; last = refl; byte_short = refl; just_enough = refl }
