-- Worked years, computed from the definitions. Proved in proofs/WorkedYears.antt.
use Rattle.std.specs.Prelude.{◌≡◌, [], ◌∷◌, ℕ}
use Rattle.lists.specs.Lists.{Each}
use Rattle.calendar_dates.specs.Dates.{number_of}
use Rattle.calendar_movable_days.specs.Easter.{cycle_epact, epact, paschal_full_moon, full_moon, easter_sunday}
use Rattle.calendar_movable_days.specs.Repentance.{repentance}
use Rattle.calendar_public_holidays.specs.Days.{ascension}
use Rattle.calendar_public_holidays.specs.YearHolidays.{year_holidays}

-- Easter of a year as a number yyyymmdd
abbrev pub EasterOn : ℕ → ℕ → Type 0
EasterOn year date = number_of (easter_sunday year) ≡ date

pub record WorkedYears : Type 0 where
  -- a year of the 20th century, whose full moon is a Sunday itself
  pub full_moon_1997 : number_of (full_moon 1997) ≡ 19970323
  pub year_1997 : EasterOn 1997 19970330
  -- "23 April in 2000"
  pub year_2000 : EasterOn 2000 20000423
  -- "A date met twice, as 1 May 2008, is listed once."
  pub year_2008 : EasterOn 2008 20080323
  pub ascension_2008 : number_of (ascension 2008) ≡ 20080501
  pub once_2008 : year_holidays 2008 0
      ≡ 20080101 ∷ 20080321 ∷ 20080323 ∷ 20080324 ∷ 20080501 ∷ 20080511 ∷ 20080512 ∷ 20081003 ∷ 20081225 ∷ 20081226 ∷ []
  pub year_2038 : EasterOn 2038 20380425
  -- the two exceptions of the Gregorian table; without them Easter would be a week later
  pub exception_2049 : (cycle_epact 2049 ≡ 25) × (epact 2049 ≡ 26)
  pub year_2049 : EasterOn 2049 20490418
  pub exception_2076 : (cycle_epact 2076 ≡ 24) × (epact 2076 ≡ 25)
  pub year_2076 : EasterOn 2076 20760419
  -- what no year of the span has: an epact of 25 that is no exception, since the golden number is at most 11 (Easter was 25 April 1886)
  pub no_exception_1886 : (cycle_epact 1886 ≡ 25) × (epact 1886 ≡ 25)
  pub full_moon_1886 : number_of (full_moon 1886) ≡ 18860418
  -- and a full moon on 21 March itself, here in six other centuries (Easter is 22 March in these years, but weekdays end with the span)
  pub earliest : Each (λ year. paschal_full_moon year ≡ 21) (1598 ∷ 1693 ∷ 1761 ∷ 1818 ∷ 2285 ∷ 2353 ∷ [])
  -- 23 November 2016 is a Wednesday itself
  pub repentance_2016 : number_of (repentance 2016) ≡ 20161116
  -- source document 000, step 4: the federal days of 2000, with Corpus Christi (bit 1), and with all regional ones
  pub federal_2000 : year_holidays 2000 0
      ≡ 20000101 ∷ 20000421 ∷ 20000423 ∷ 20000424 ∷ 20000501 ∷ 20000601 ∷ 20000611 ∷ 20000612 ∷ 20001003 ∷ 20001225 ∷ 20001226 ∷ []
  pub corpus_christi_2000 : year_holidays 2000 2
      ≡ 20000101 ∷ 20000421 ∷ 20000423 ∷ 20000424 ∷ 20000501 ∷ 20000601 ∷ 20000611 ∷ 20000612 ∷ 20000622 ∷ 20001003 ∷ 20001225 ∷ 20001226 ∷ []
  pub all_2000 : year_holidays 2000 63
      ≡ 20000101 ∷ 20000106 ∷ 20000421 ∷ 20000423 ∷ 20000424 ∷ 20000501 ∷ 20000601 ∷ 20000611 ∷ 20000612 ∷ 20000622 ∷ 20000815 ∷ 20001003 ∷ 20001031
      ∷ 20001101 ∷ 20001122 ∷ 20001225 ∷ 20001226 ∷ []
