-- Document 01, "Calendar", and document 02, (b) and (d): seasons, day types and clock changes.
use Rattle.std.specs.Prelude.{Bool, cond, ◌&&◌, ◌||◌, List, ◌++◌, ℕ, ◌+◌, ◌*◌, leb, ltb, eqb, take, drop}
use Rattle.calendar_dates.specs.declared.Date.{Date}
use Rattle.calendar_dates.specs.Dates.{number_of, month_length, weekday_of}
use Rattle.calendar_holidays.specs.Holidays.{listed}
use Rattle.calendar_days.specs.declared.Season.{Season}
use Rattle.calendar_days.specs.declared.Season.TheVariants.{Winter, Summer, Transition}
use Rattle.calendar_days.specs.declared.DayType.{DayType}
use Rattle.calendar_days.specs.declared.DayType.TheVariants.{Weekday, Saturday, Sunday}
use Rattle.calendar_days.specs.declared.DayKind.{DayKind}
use Rattle.calendar_days.specs.declared.Clock.{Clock}
use Rattle.calendar_days.specs.declared.Clock.TheVariants.{Unchanged, Forward, Back}

-- "season letter (W, S, T)", as its code
abbrev pub season_letter : Season → ℕ
season_letter Winter = 87
season_letter Summer = 83
season_letter Transition = 84

-- the seasons' digits are our choice, by the order of the tables in the file; "day type (1 weekday, 2 Saturday, 3 Sunday)"
abbrev pub season_digit : Season → ℕ
season_digit Winter = 1
season_digit Summer = 2
season_digit Transition = 3

abbrev pub day_type_digit : DayType → ℕ
day_type_digit Weekday = 1
day_type_digit Saturday = 2
day_type_digit Sunday = 3

-- month and day as one number, mmdd
abbrev pub month_day : Date → ℕ
month_day d = d.month * 100 + d.day

-- whether a date is on or after, and on or before, a day and month of its year; day before month, as source document 000 writes "1.11."
unfoldable pub from : (d : Date) (day month : ℕ) → Bool
from d day month = leb (month * 100 + day) (month_day d)

unfoldable pub to : (d : Date) (day month : ℕ) → Bool
to d day month = leb (month_day d) (month * 100 + day)

-- source document 000, step 2, in its order
unfoldable pub season : Date → Season
season d =
    -- "Winter: 1.11.-20.03.": over New Year, so either of its two parts
    cond (from d 1 11 || to d 20 3) Winter
    -- "Sommer: 15.05.-14.09."
    (cond (from d 15 5 && to d 14 9) Summer
    -- "Übergang: 21.03.-14.05. bzw. 15.09.-31.10.": what is left, by the theorem SeasonsSettled
    Transition)

-- "24 or 31 December"
unfoldable pub is_eve : Date → Bool
is_eve d = eqb d.month 12 && (eqb d.day 24 || eqb d.day 31)

-- Document 01 as document 02 (b) changes it: "A Sunday is a Sunday." "a listed date counts as Sunday even on 24 or 31 December;
-- unlisted, those two still count as Saturday unless they are Sundays." "Then Saturdays and weekdays.": of a date that is a listed
-- holiday or not
unfoldable pub day_type_when : Date → Bool → DayType
day_type_when d holiday =
    cond (eqb (weekday_of d) 7) Sunday
    (cond holiday Sunday
    (cond (is_eve d) Saturday
    (cond (eqb (weekday_of d) 6) Saturday Weekday)))

abbrev pub day_type : Date → List ℕ → DayType
day_type d holidays = day_type_when d (listed (number_of d) holidays)

-- both: which table of values a day has
abbrev pub day_kind : Date → List ℕ → DayKind
day_kind d holidays = record { season = season d; day_type = day_type d holidays }

-- the last Sunday of its month: seven days later the month is over
unfoldable pub last_sunday : Date → Bool
last_sunday d = eqb (weekday_of d) 7 && ltb (month_length d.year d.month) (d.day + 7)

-- clocks go forward on "the last Sunday of March" and back on "the last Sunday of October"
unfoldable pub clock : Date → Clock
clock d = cond (eqb d.month 3 && last_sunday d) Forward (cond (eqb d.month 10 && last_sunday d) Back Unchanged)

-- "The last Sunday of March loses positions 8 to 11", "the last Sunday of October repeats positions 8 to 11 directly after
-- position 11": what stands at a day's 96 positions, after the clock change
unfoldable pub positions : {A : Type 0} → Clock → List A → List A
positions Unchanged day = day
positions Forward day = take 8 day ++ drop 12 day
positions Back day = take 12 day ++ drop 8 day

-- March "has 92 values", October "has 100. All other days have 96."
abbrev pub value_count_under : Clock → ℕ
value_count_under Unchanged = 96
value_count_under Forward = 92
value_count_under Back = 100

abbrev pub value_count : Date → ℕ
value_count d = value_count_under (clock d)
