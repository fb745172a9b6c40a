-- Document 01, "The profile file": "Values stand in the order winter, summer, transition; in each season weekday, Saturday, Sunday;
-- in each day 96 values". Which of a group's values are a day's.
use Rattle.std.specs.Prelude.{List, ℕ, ◌+◌, ◌*◌, take, drop}
use Rattle.calendar_dates.specs.declared.Date.{Date}
use Rattle.calendar_days.specs.declared.Season.{Season}
use Rattle.calendar_days.specs.declared.DayType.{DayType}
use Rattle.calendar_days.specs.declared.DayKind.{DayKind}
use Rattle.calendar_days.specs.Days.{day_kind}

-- "winter, summer, transition"
abbrev pub season_place : Season → ℕ
season_place Season.Winter = 0
season_place Season.Summer = 1
season_place Season.Transition = 2

-- "weekday, Saturday, Sunday"
abbrev pub day_type_place : DayType → ℕ
day_type_place DayType.Weekday = 0
day_type_place DayType.Saturday = 1
day_type_place DayType.Sunday = 2

-- which of the nine day tables, from 0
abbrev pub day_table_index : Season → DayType → ℕ
day_table_index s d = season_place s * 3 + day_type_place d

abbrev pub day_table_of : DayKind → ℕ
day_table_of kind = day_table_index kind.season kind.day_type

-- the 96 values of a day table
abbrev pub day_table_at : ℕ → List ℕ → List ℕ
day_table_at index values = take 96 (drop (index * 96) values)

-- the 96 values of a day, out of its group's values
unfoldable pub day_values : List ℕ → List ℕ → Date → List ℕ
day_values values holidays d = day_table_at (day_table_of (day_kind d holidays)) values
