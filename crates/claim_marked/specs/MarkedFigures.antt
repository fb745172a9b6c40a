-- Document 01, "Marked days and figures", in its order, and document 02's beside them. Proved in proofs/MarkedFigures.antt.
use Rattle.std.specs.Prelude.{◌≡◌, List, [], ◌∷◌, ℕ, pos, length}
use Rattle.calendar_dates.specs.Dates.{date_of, day_of_year, weekday_of}
use Rattle.calendar_days.specs.declared.Season.{Season}
use Rattle.calendar_days.specs.declared.DayType.{DayType}
use Rattle.calendar_days.specs.Days.{season, day_type, value_count}
use Rattle.calendar_days.specs.ClockChanges.{ClockChanges}
use Rattle.calendar_period.specs.Period.{value_count_of_days}
use Rattle.dynamisation.specs.Dynamisation.{X, F, Q}
use Rattle.carry.specs.Carry.{figures, last_carry}
use Rattle.day_powers.specs.DayQuarters.{Basis, day_quarters}
use Rattle.series.specs.Series.{quarters_of_days}

-- "X and F" of the households, group code 0
pub record Factor (t x f : ℕ) : Type 0 where
  pub exact : X 0 t ≡ pos x
  pub rounded : F 0 t ≡ f

-- a date's season, in every year
abbrev pub InSeason : ℕ → ℕ → Season → Type 0
InSeason month day s = (year : ℕ) → season (record { year = year; month = month; day = day }) ≡ s

-- a date's weekday, season and day type with a list
pub record DayIsWith (holidays : List ℕ) (date weekday : ℕ) (s : Season) (d : DayType) : Type 0 where
  pub is_weekday : weekday_of (date_of date) ≡ weekday
  pub is_season : season (date_of date) ≡ s
  pub is_day_type : day_type (date_of date) holidays ≡ d

-- and without one
abbrev pub DayIs : ℕ → ℕ → Season → DayType → Type 0
DayIs = DayIsWith []

-- the date itself listed
abbrev pub ListedDayIs : ℕ → ℕ → Season → DayType → Type 0
ListedDayIs date = DayIsWith (date ∷ []) date

-- how many quarter hours the series of some days from a date on has, whatever the group, its 864 values and the list
abbrev pub SeriesHas : ℕ → ℕ → ℕ → Type 0
SeriesHas days date count =
    (b : Basis) → length b.values ≡ 864 →
    length (quarters_of_days (day_quarters b) days (date_of date)) ≡ count

pub record MarkedFigures : Type 0 where
  pub t_1 : Factor 1 1_242_030_119_608 12_420
  pub t_202 : Factor 202 784_662_924_928 7_847
  pub t_365 : Factor 365 1_257_215_955_000 12_572
  pub t_366 : Factor 366 1_259_685_225_088 12_597
  -- "H0, t = 1, P = 250: Q = 311 (a half goes up)"
  pub half : Q 250 (F 0 1) ≡ 311
  -- "20 and 21 March: W, T. 14 and 15 May: T, S. 14 and 15 September: S, T. 31 October and 1 November: T, W."
  pub march_20 : InSeason 3 20 Season.Winter
  pub march_21 : InSeason 3 21 Season.Transition
  pub may_14 : InSeason 5 14 Season.Transition
  pub may_15 : InSeason 5 15 Season.Summer
  pub september_14 : InSeason 9 14 Season.Summer
  pub september_15 : InSeason 9 15 Season.Transition
  pub october_31 : InSeason 10 31 Season.Transition
  pub november_1 : InSeason 11 1 Season.Winter
  -- "29 February 2000: Tuesday, t = 60."
  pub leap_day : weekday_of (date_of 20000229) ≡ 2
  pub leap_day-t : day_of_year (date_of 20000229) ≡ 60
  -- "24 December 1999 (Friday): W2. 31 December 2000 (Sunday): W3."
  pub christmas_eve : DayIs 19991224 5 Season.Winter DayType.Saturday
  pub year_end : DayIs 20001231 7 Season.Winter DayType.Sunday
  -- document 02 (b), "a listed date counts as Sunday even on 24 or 31 December": these two days of 1999 are Fridays, 25 December 1999
  -- is a Saturday, 24 December 2000 a Sunday
  pub listed_christmas_eve : ListedDayIs 19991224 5 Season.Winter DayType.Sunday
  pub listed_new_years_eve : ListedDayIs 19991231 5 Season.Winter DayType.Sunday
  pub listed_saturday : ListedDayIs 19991225 6 Season.Winter DayType.Sunday
  pub listed_sunday_eve : ListedDayIs 20001224 7 Season.Winter DayType.Sunday
  -- "unlisted, those two still count as Saturday unless they are Sundays"
  pub sunday_eve : DayIs 20001224 7 Season.Winter DayType.Sunday
  pub new_years_eve : DayIs 19991231 5 Season.Winter DayType.Saturday
  -- "26 March 2000: 92 values. 29 October 2000: 100. Year 2000: 35,136."
  pub clock_forward : value_count (date_of 20000326) ≡ 92
  pub clock_back : value_count (date_of 20001029) ≡ 100
  pub year_2000 : value_count_of_days 366 (date_of 20000101) ≡ 35_136
  pub series_forward : SeriesHas 1 20000326 92
  pub series_back : SeriesHas 1 20001029 100
  pub series_2000 : SeriesHas 366 20000101 35_136
  -- beyond that list: which positions these two days have, and in which order
  pub clock_changes : ClockChanges
  -- "Q = 1001, A = 1000, carry 39,999: 26 Wh, carry 999."
  pub carry_step : figures 1_000 (1_001 ∷ []) 39_999 ≡ 26 ∷ []
  pub carry_left : last_carry 1_000 (1_001 ∷ []) 39_999 ≡ 999
