-- Document 02, (a): "Easter is the Sunday after the paschal full moon of the Gregorian computus, 23 April in 2000." The computus as the
-- books have it, step by step; for instance D. E. Knuth, The Art of Computer Programming, volume 1, section 1.3.2, exercise 14. The steps as
-- far as the full moon hold from 1583 to 9005 (in 9006 a difference falls below 0); weekdays are document 01's, so Easter itself
-- only for 1996 to 2099.
use Rattle.std.specs.Prelude.{cond, ◌&&◌, ◌||◌, ℕ, ◌+◌, ◌-◌, ◌*◌, ◌/◌, ◌%◌, ltb, eqb}
use Rattle.calendar_dates.specs.declared.Date.{Date}
use Rattle.calendar_movable_days.specs.Counted.{march_day, days_until}

-- the golden number: the year's place, 1 to 19, in the cycle after which the moon's phases come back to the same dates
unfoldable pub golden_number : ℕ → ℕ
golden_number year = year % 19 + 1

-- the century: 20 for 1996, and 21 already for 2000
unfoldable pub century : ℕ → ℕ
century year = year / 100 + 1

-- the solar correction: the leap days that the Gregorian calendar leaves out, as in 1700, 1800, 1900 and next in 2100
unfoldable pub solar_correction : ℕ → ℕ
solar_correction year = (3 * century year) / 4 - 12

-- the lunar correction: the days by which the cycle of 19 years falls behind the moon, 8 in 2,500 years
unfoldable pub lunar_correction : ℕ → ℕ
lunar_correction year = (8 * century year + 5) / 25 - 5

-- the epact, the moon's age at the beginning of the year, as the cycle and the two corrections give it
unfoldable pub cycle_epact : ℕ → ℕ
cycle_epact year = (11 * golden_number year + 20 + lunar_correction year - solar_correction year) % 30

-- and with the two exceptions of the Gregorian table: an epact of 24, and one of 25 where the golden number is above 11, counts one more
unfoldable pub epact : ℕ → ℕ
epact year =
    cond (eqb (cycle_epact year) 24 || (eqb (cycle_epact year) 25 && ltb 11 (golden_number year)))
    (cycle_epact year + 1)
    (cycle_epact year)

-- the paschal full moon, the first from 21 March on, as a day of March that is counted on through April: 32 is 1 April
unfoldable pub paschal_full_moon : ℕ → ℕ
paschal_full_moon year = cond (ltb (44 - epact year) 21) (44 - epact year + 30) (44 - epact year)

-- "the Sunday after the paschal full moon": the first Sunday from the next day on, as a day of March
unfoldable pub easter_day : ℕ → ℕ
easter_day year = paschal_full_moon year + 1 + days_until 7 (march_day year (paschal_full_moon year + 1))

-- the two as dates
abbrev pub full_moon : ℕ → Date
full_moon year = march_day year (paschal_full_moon year)

abbrev pub easter_sunday : ℕ → Date
easter_sunday year = march_day year (easter_day year)
