-- Which dates have which season: a date is in one of the five stretches of a year that the borders make, and each has its season. How
-- many days of a year: January, February with its own length, and the rest are counted by themselves.
-- Assumes nothing.
use mathlib.Core.Path.{◌≡◌, refl, sym}
use mathlib.Core.Bool.{Bool, true, false, cond}
use mathlib.Core.Logic.{inl, inr}
use Prim.Native.Nat.{ℕ, zero, suc, ◌+◌, ◌-◌, ◌*◌, ◌≤◌}
use native.Mathlib.Omega.{arith}
use native.Mathlib.Nat.{zero-add, suc-add}
use lib.Dec.{ltb, leb, eqb}
use lib.ListN.{get_or}
use borrow.Author.Tests.{le-leb, lt-leb, leb-true, leb-false, ltb-true, ltb-false}
use Rattle.calendar_dates.specs.declared.Date.{Date}
use Rattle.calendar_dates.specs.Dates.{number_of, month_lengths, leap_days, month_length, is_date, day_number, next_day, days_later}
use Rattle.calendar_dates.proofs.Dates.{month-small, parts, is-date}
use Rattle.calendar_dates.proofs.NextDay.{is-same-month, is-next-month}
use Rattle.calendar_days.specs.declared.Season.{Season}
use Rattle.calendar_days.specs.declared.Season.TheVariants.{Winter, Summer, Transition}
use Rattle.calendar_days.specs.Days.{month_day, from, to, season}
use Rattle.calendar_laws.specs.Seasons.{earlier_season, FromTo, InWinter, InSummer, InTransition, Exactly, SeasonFacts, SeasonDays, with_day, days_by_season, YearHas, SeasonsSettled}
use Rattle.calendar_laws.proofs.Order.{same-order}

-- dates have the order of their day numbers, where they may be equal
same-weak-order : (a b : Date) → is_date a ≡ true → is_date b ≡ true → Exactly (day_number a ≤ day_number b) (number_of a ≤ number_of b)
same-weak-order a b p q = (to_number (ltb (number_of b) (number_of a)) refl, to-day (ltb (day_number b) (day_number a)) refl)
  where
    to_number : (t : Bool) → ltb (number_of b) (number_of a) ≡ t → day_number a ≤ day_number b → number_of a ≤ number_of b
    to_number true e h = absurd (omega (arith, (same-order b a q p).by_day (ltb-true (number_of b) (number_of a) e)))
    to_number false e h = ltb-false (number_of b) (number_of a) e

    to-day : (t : Bool) → ltb (day_number b) (day_number a) ≡ t → number_of a ≤ number_of b → day_number a ≤ day_number b
    to-day true e h = absurd (omega (arith, (same-order b a q p).by_number (ltb-true (day_number b) (day_number a) e)))
    to-day false e h = ltb-false (day_number b) (day_number a) e

-- a day and month of a year
abbrev day_of : (year day month : ℕ) → Date
day_of year day month = record { year = year; month = month; day = day }

-- no month is shorter than in a common year
no-shorter : (year month : ℕ) → month_length 1999 month ≤ month_length year month
unfolding month_length leap_days
no-shorter year month = go (eqb month 2)
  where
    go : (b : Bool) → get_or month_lengths (month - 1) 0 + cond b 0 0 ≤ get_or month_lengths (month - 1) 0 + cond b (leap_days year) 0
    go true = omega arith
    go false = omega arith

-- so a day of a common year is one of every year
in-year : (d : Date) → is_date d ≡ true → (day month : ℕ) → is_date (day_of 1999 day month) ≡ true → is_date (day_of d.year day month) ≡ true
in-year d real day month common =
    let p = parts d real in
    let q = parts (day_of 1999 day month) common in
    is-date (day_of d.year day month) p.year-from p.year-to q.month-from q.month-to q.day-from
    (omega (arith, no-shorter d.year month))

-- from one day of its year to another, told by mmdd
module _ (d : Date) (real : is_date d ≡ true) (first_day first_month last_day last_month : ℕ)
    (first : is_date (day_of 1999 first_day first_month) ≡ true) (last : is_date (day_of 1999 last_day last_month) ≡ true) where
  not-before : Exactly (day_number (day_of d.year first_day first_month) ≤ day_number d) (number_of (day_of d.year first_day first_month) ≤ number_of d)
  not-before = same-weak-order (day_of d.year first_day first_month) d (in-year d real first_day first_month first) real

  not_after : Exactly (day_number d ≤ day_number (day_of d.year last_day last_month)) (number_of d ≤ number_of (day_of d.year last_day last_month))
  not_after = same-weak-order d (day_of d.year last_day last_month) real (in-year d real last_day last_month last)

  by-days : first_month * 100 + first_day ≤ month_day d → month_day d ≤ last_month * 100 + last_day → FromTo first_day first_month last_day last_month d
  by-days a b = record { not_before = omega (arith, not-before.1 (omega arith)); not_after = omega (arith, not_after.1 (omega arith)) }

  by-month-day : FromTo first_day first_month last_day last_month d → (first_month * 100 + first_day ≤ month_day d) × (month_day d ≤ last_month * 100 + last_day)
  by-month-day h = (omega (arith, not-before.0 h.not_before), omega (arith, not_after.0 h.not_after))

-- the five stretches of a year that the borders make, by mmdd
data Stretch (m : ℕ) : Type 0 where
  early : m ≤ 320 → Stretch m
  spring : 321 ≤ m → m ≤ 514 → Stretch m
  middle : 515 ≤ m → m ≤ 914 → Stretch m
  autumn : 915 ≤ m → m ≤ 1100 → Stretch m
  late : 1101 ≤ m → Stretch m

stretch : (m : ℕ) → Stretch m
stretch m = by-march (leb m 320) refl
  where
    by-november : 915 ≤ m → (t : Bool) → leb m 1100 ≡ t → Stretch m
    by-november a true e = autumn a (leb-true m 1100 e)
    by-november a false e = late (omega (arith, leb-false m 1100 e))

    by-september : 515 ≤ m → (t : Bool) → leb m 914 ≡ t → Stretch m
    by-september a true e = middle a (leb-true m 914 e)
    by-september a false e = by-november (omega (arith, leb-false m 914 e)) (leb m 1100) refl

    by_may : 321 ≤ m → (t : Bool) → leb m 514 ≡ t → Stretch m
    by_may a true e = spring a (leb-true m 514 e)
    by_may a false e = by-september (omega (arith, leb-false m 514 e)) (leb m 914) refl

    by-march : (t : Bool) → leb m 320 ≡ t → Stretch m
    by-march true e = early (leb-true m 320 e)
    by-march false e = by_may (omega (arith, leb-false m 320 e)) (leb m 514) refl

-- each has its season
module _ (d : Date) where
  in-early : month_day d ≤ 320 → season d ≡ Winter
  unfolding season from to
  in-early h = rw (lt-leb 1101 (month_day d) (omega arith), le-leb (month_day d) 320 h)

  in-spring : 321 ≤ month_day d → month_day d ≤ 514 → season d ≡ Transition
  unfolding season from to
  in-spring a b =
      rw (lt-leb 1101 (month_day d) (omega arith), lt-leb (month_day d) 320 (omega arith), lt-leb 515 (month_day d) (omega arith))

  in-middle : 515 ≤ month_day d → month_day d ≤ 914 → season d ≡ Summer
  unfolding season from to
  in-middle a b =
      rw (lt-leb 1101 (month_day d) (omega arith), lt-leb (month_day d) 320 (omega arith), le-leb 515 (month_day d) a, le-leb (month_day d) 914 b)

  in-autumn : 915 ≤ month_day d → month_day d ≤ 1100 → season d ≡ Transition
  unfolding season from to
  in-autumn a b =
      rw (lt-leb 1101 (month_day d) (omega arith), lt-leb (month_day d) 320 (omega arith), le-leb 515 (month_day d) (omega arith), lt-leb (month_day d) 914 (omega arith))

  in-late : 1101 ≤ month_day d → season d ≡ Winter
  unfolding season from to
  in-late h = rw (le-leb 1101 (month_day d) h)

-- no season is another
winter-no-summer : {s : Season} → s ≡ Winter → s ≡ Summer → ⊥
winter-no-summer a b = let z : ◌≡◌ {A = ℕ} 0 1 = cc in omega arith

winter-no-transition : {s : Season} → s ≡ Winter → s ≡ Transition → ⊥
winter-no-transition a b = let z : ◌≡◌ {A = ℕ} 0 1 = cc in omega arith

summer-no-transition : {s : Season} → s ≡ Summer → s ≡ Transition → ⊥
summer-no-transition a b = let z : ◌≡◌ {A = ℕ} 0 1 = cc in omega arith

-- so the season tells the stretch, and the stretch the season
module _ (d : Date) (real : is_date d ≡ true) where
  winter-found : season d ≡ Winter → Stretch (month_day d) → InWinter d
  unfolding is_date month_length
  winter-found s (early h) = inr (by-days d real _ _ _ _ refl refl (omega (arith, parts d real)) (omega arith))
  winter-found s (spring a b) = absurd (winter-no-transition s (in-spring d a b))
  winter-found s (middle a b) = absurd (winter-no-summer s (in-middle d a b))
  winter-found s (autumn a b) = absurd (winter-no-transition s (in-autumn d a b))
  winter-found s (late h) = inl (by-days d real _ _ _ _ refl refl (omega arith) (omega (arith, parts d real)))

  summer-found : season d ≡ Summer → Stretch (month_day d) → InSummer d
  unfolding is_date month_length
  summer-found s (early h) = absurd (winter-no-summer (in-early d h) s)
  summer-found s (spring a b) = absurd (summer-no-transition s (in-spring d a b))
  summer-found s (middle a b) = by-days d real _ _ _ _ refl refl (omega arith) (omega arith)
  summer-found s (autumn a b) = absurd (summer-no-transition s (in-autumn d a b))
  summer-found s (late h) = absurd (winter-no-summer (in-late d h) s)

  transition-found : season d ≡ Transition → Stretch (month_day d) → InTransition d
  unfolding is_date month_length
  transition-found s (early h) = absurd (winter-no-transition (in-early d h) s)
  transition-found s (spring a b) = inl (by-days d real _ _ _ _ refl refl (omega arith) (omega arith))
  transition-found s (middle a b) = absurd (summer-no-transition (in-middle d a b) s)
  transition-found s (autumn a b) = inr (by-days d real _ _ _ _ refl refl (omega arith) (omega (arith, parts d real)))
  transition-found s (late h) = absurd (winter-no-transition (in-late d h) s)

  winter-told : InWinter d → season d ≡ Winter
  unfolding is_date month_length
  winter-told (inl h) = let m = by-month-day d real _ _ _ _ refl refl h in in-late d (omega arith)
  winter-told (inr h) = let m = by-month-day d real _ _ _ _ refl refl h in in-early d (omega arith)

  summer-told : InSummer d → season d ≡ Summer
  unfolding is_date month_length
  summer-told h = let m = by-month-day d real _ _ _ _ refl refl h in in-middle d (omega arith) (omega arith)

  transition-told : InTransition d → season d ≡ Transition
  unfolding is_date month_length
  transition-told (inl h) = let m = by-month-day d real _ _ _ _ refl refl h in in-spring d (omega arith) (omega arith)
  transition-told (inr h) = let m = by-month-day d real _ _ _ _ refl refl h in in-autumn d (omega arith) (omega arith)

same-as-before : (d : Date) → season d ≡ earlier_season d
unfolding season from to earlier_season
same-as-before d = refl

-- two counts added
plus : SeasonDays → SeasonDays → SeasonDays
plus a b = record { winter = a.winter + b.winter; summer = a.summer + b.summer; transition = a.transition + b.transition }

same-days : {w s t w' s' t' : ℕ} → w ≡ w' → s ≡ s' → t ≡ t' → ◌≡◌ {A = SeasonDays} (record { winter = w; summer = s; transition = t }) (record { winter = w'; summer = s'; transition = t' })
same-days w s t = rw (w, s, t)

plus-with : (s : Season) (a b : SeasonDays) → with_day s (plus a b) ≡ plus (with_day s a) b
unfolding with_day plus
plus-with Winter a b = same-days (omega arith) refl refl
plus-with Summer a b = same-days refl (omega arith) refl
plus-with Transition a b = same-days refl refl (omega arith)

-- days cut in two
cut : (m n : ℕ) (d : Date) → days_by_season (m + n) d ≡ plus (days_by_season m d) (days_by_season n (days_later m d))
unfolding days_by_season days_later plus
cut zero n d = rw (zero-add n) (same-days (sym (zero-add _)) (sym (zero-add _)) (sym (zero-add _)))
cut (suc m) n d = rw (suc-add, cut m n (next_day d)) (plus-with (season d) (days_by_season m (next_day d)) (days_by_season n (days_later m (next_day d))))

-- a year in three parts, of which February's length is the year's own
january : (year : ℕ) → days_by_season 31 (day_of year 1 1) ≡ record { winter = 31; summer = 0; transition = 0 }
unfolding month_length next_day season from to with_day days_by_season
january year = refl

behind-january : (year : ℕ) → days_later 31 (day_of year 1 1) ≡ day_of year 1 2
unfolding month_length next_day days_later
behind-january year = refl

from-march : (year : ℕ) → days_by_season 306 (day_of year 1 3) ≡ record { winter = 81; summer = 123; transition = 102 }
unfolding month_length next_day season from to with_day days_by_season
from-march year = refl

february-length : (year : ℕ) → month_length year 2 ≡ 28 + leap_days year
unfolding month_length
february-length year = refl

february-season : (year day : ℕ) → day ≤ month_length year 2 → season (day_of year day 2) ≡ Winter
february-season year day h = in-early (day_of year day 2) (omega (arith, month-small year 2))

-- n days of February and the last one
february : (year day n : ℕ) → day + n ≡ month_length year 2 → days_by_season (suc n + 306) (day_of year day 2) ≡ record { winter = suc n + 81; summer = 123; transition = 102 }
unfolding with_day days_by_season
february year day zero h =
    let next : next_day (day_of year day 2) ≡ day_of year 1 3 = is-next-month (day_of year day 2) (month_length year 2) refl (omega arith) (omega arith) in
    rw (february-season year day (omega arith), next, from-march year)
february year day (suc n) h =
    let next : next_day (day_of year day 2) ≡ day_of year (day + 1) 2 = is-same-month (day_of year day 2) (month_length year 2) refl (omega arith) in
    rw (suc-add (suc n) 306, february-season year day (omega arith), next, february year (day + 1) n (omega arith))
    (same-days (omega arith) refl refl)

year-counted : (year winter summer transition : ℕ) → winter ≡ 140 + leap_days year → summer ≡ 123 → transition ≡ 102 → YearHas year winter summer transition
unfolding plus
year-counted year winter summer transition w s t =
    let n = 27 + leap_days year in
    let all : 365 + leap_days year ≡ 31 + (suc n + 306) = omega arith in
    rw (all, cut 31 (suc n + 306) (day_of year 1 1), january year, behind-january year, february year 1 n (omega (arith, february-length year)))
    (same-days (omega arith) (omega arith) (omega arith))

season-facts : (d : Date) → is_date d ≡ true → SeasonFacts d
season-facts d real =
    let found = stretch (month_day d) in
    record {
      is_winter = (λ s. winter-found d real s found, winter-told d real);
      is_summer = (λ s. summer-found d real s found, summer-told d real);
      is_transition = (λ s. transition-found d real s found, transition-told d real);
      same_as_before = same-as-before d;
    }

pub seasons-settled : SeasonsSettled
unfolding leap_days month_length next_day season from to with_day days_by_season
seasons-settled = record { dates = season-facts; years = λ year. year-counted year _ _ _ (omega arith) (omega arith) (omega arith); year_1999 = refl; year_2000 = refl }
