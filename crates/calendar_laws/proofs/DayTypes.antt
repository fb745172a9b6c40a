-- How the day type of every date is settled, and what request (b) changed: the tests of the two orders, case by case.
-- Assumes nothing.
use mathlib.Core.Path.{◌≡◌, refl, sym, ◌∙◌, ap}
use mathlib.Core.Bool.{Bool, true, false, cond, ◌&&◌, ◌||◌, true≢false}
use mathlib.Core.List.{List}
use mathlib.Core.Logic.{inl, inr}
use Prim.Native.Nat.{ℕ, ◌≤◌}
use native.Mathlib.Omega.{arith}
use lib.Dec.{eqb}
use borrow.Author.Tests.{eq-eqb, ne_eqb, eqb-true, eqb-false}
use Rattle.calendar_dates.specs.declared.Date.{Date}
use Rattle.calendar_dates.specs.Dates.{number_of, is_date, weekday_of}
use Rattle.calendar_dates.proofs.Dates.{parts}
use Rattle.calendar_holidays.specs.Holidays.{listed}
use Rattle.calendar_days.specs.declared.DayType.{DayType}
use Rattle.calendar_days.specs.declared.DayType.TheVariants.{Weekday, Saturday, Sunday}
use Rattle.calendar_days.specs.Days.{month_day, is_eve, day_type_when, day_type}
use Rattle.calendar_laws.specs.DayTypes.{earlier_day_type, Eve, ListedEve, DayTypesSettled}

-- what the order asks of month and day
eve-asked : (d : Date) → Eve d → is_eve d ≡ true
unfolding is_eve
eve-asked d (december, inl day) = rw (december, day)
eve-asked d (december, inr day) = rw (december, day)

eve-found : (d : Date) → is_eve d ≡ true → Eve d
unfolding is_eve
eve-found d = go (eqb d.month 12) refl (eqb d.day 24) refl (eqb d.day 31) refl
  where
    go : (m : Bool) → eqb d.month 12 ≡ m → (a : Bool) → eqb d.day 24 ≡ a → (b : Bool) → eqb d.day 31 ≡ b → (m && (a || b)) ≡ true → Eve d
    go false p a q b r t = absurd (true≢false (sym t))
    go true p true q b r t = (eqb-true d.month 12 p, inl (eqb-true d.day 24 q))
    go true p false q true r t = (eqb-true d.month 12 p, inr (eqb-true d.day 31 r))
    go true p false q false r t = absurd (true≢false (sym t))

no-eve : (d : Date) → (Eve d → ⊥) → is_eve d ≡ false
no-eve d n = go (is_eve d) (eve-found d)
  where
    go : (b : Bool) → (b ≡ true → Eve d) → b ≡ false
    go true found = absurd (n (found refl))
    go false found = refl

-- and what the order before asked, of mmdd
abbrev asked-before : Date → Bool
asked-before d = eqb (month_day d) 1224 || eqb (month_day d) 1231

second : (a b : Bool) → b ≡ true → (a || b) ≡ true
second true b h = refl
second false b h = h

before-asked : (d : Date) → Eve d → asked-before d ≡ true
before-asked d (december, inl day) =
    let same : month_day d ≡ 1224 = omega (arith, december, day) in
    rw (eq-eqb (month_day d) 1224 same)
before-asked d (december, inr day) =
    second (eqb (month_day d) 1224) (eqb (month_day d) 1231) (eq-eqb (month_day d) 1231 (omega (arith, december, day)))

before-found : (d : Date) → is_date d ≡ true → asked-before d ≡ true → Eve d
before-found d real = go (eqb (month_day d) 1224) refl (eqb (month_day d) 1231) refl
  where
    go : (a : Bool) → eqb (month_day d) 1224 ≡ a → (b : Bool) → eqb (month_day d) 1231 ≡ b → (a || b) ≡ true → Eve d
    go true p b q t =
        let same = eqb-true (month_day d) 1224 p in
        (omega (arith, same, parts d real), inl (omega (arith, same, parts d real)))
    go false p true q t =
        let same = eqb-true (month_day d) 1231 q in
        (omega (arith, same, parts d real), inr (omega (arith, same, parts d real)))
    go false p false q t = absurd (true≢false (sym t))

-- are the same of a real date
both_ways : (a b : Bool) → (a ≡ true → b ≡ true) → (b ≡ true → a ≡ true) → a ≡ b
both_ways true b f g = sym (f refl)
both_ways false true f g = g refl
both_ways false false f g = refl

same_asked : (d : Date) → is_date d ≡ true → asked-before d ≡ is_eve d
same_asked d real = both_ways (asked-before d) (is_eve d) (λ h. eve-asked d (before-found d real h)) (λ h. before-asked d (eve-found d h))

-- a Sunday is no Saturday
place : DayType → ℕ
place Weekday = 1
place Saturday = 2
place Sunday = 3

no-saturday : Sunday ≡ Saturday → ⊥
unfolding place
no-saturday same =
    let three : ◌≡◌ {A = ℕ} 3 2 = ap place same in
    omega arith

either_way : (b : Bool) (t : DayType) → cond b t t ≡ t
either_way true t = refl
either_way false t = refl

module _ (d : Date) (holidays : List ℕ) where
  abbrev is_listed : Bool
  is_listed = listed (number_of d) holidays

  on-sunday : weekday_of d ≡ 7 → day_type d holidays ≡ Sunday
  unfolding day_type_when
  on-sunday h = rw (eq-eqb (weekday_of d) 7 h)

  on-listed : is_listed ≡ true → day_type d holidays ≡ Sunday
  unfolding day_type_when
  on-listed l = rw l (either_way (eqb (weekday_of d) 7) Sunday)

  on-eve : is_listed ≡ false → Eve d → (weekday_of d ≡ 7 → ⊥) → day_type d holidays ≡ Saturday
  unfolding day_type_when
  on-eve l e n = rw (l, ne_eqb (weekday_of d) 7 n, eve-asked d e)

  on-saturday : is_listed ≡ false → weekday_of d ≡ 6 → day_type d holidays ≡ Saturday
  unfolding day_type_when
  on-saturday l h = rw (l, h) (either_way (is_eve d) Saturday)

  on-weekday : is_listed ≡ false → (Eve d → ⊥) → weekday_of d ≤ 5 → day_type d holidays ≡ Weekday
  unfolding day_type_when
  on-weekday l n h =
      rw (l, ne_eqb (weekday_of d) 7 (λ e. omega (arith, h, e)), no-eve d n, ne_eqb (weekday_of d) 6 (λ e. omega (arith, h, e)))

  unlisted-same : is_date d ≡ true → is_listed ≡ false → day_type d holidays ≡ earlier_day_type d holidays
  unfolding day_type_when earlier_day_type
  unlisted-same real l = rw (l, same_asked d real)

  eve-earlier : ListedEve d holidays → earlier_day_type d holidays ≡ Saturday
  unfolding earlier_day_type
  eve-earlier k = rw (ne_eqb (weekday_of d) 7 k.no_sunday, before-asked d k.eve)

  else_same : is_date d ≡ true → (ListedEve d holidays → ⊥) → day_type d holidays ≡ earlier_day_type d holidays
  unfolding day_type_when earlier_day_type
  else_same real n = go is_listed refl (eqb (weekday_of d) 7) refl (is_eve d) refl
    where
      go : (l : Bool) → is_listed ≡ l → (s : Bool) → eqb (weekday_of d) 7 ≡ s → (e : Bool) → is_eve d ≡ e →
          day_type d holidays ≡ earlier_day_type d holidays
      go false l s p e q = unlisted-same real l
      go true l true p e q = rw (l, p)
      go true l false p true q = absurd (n (record { is_listed = l; eve = eve-found d q; no_sunday = eqb-false (weekday_of d) 7 p }))
      go true l false p false q = rw (l, p, same_asked d real, q)

pub day-types-settled : DayTypesSettled
unfolding DayTypesSettled
day-types-settled d holidays real =
    record {
      on_sunday = on-sunday d holidays;
      on_listed = on-listed d holidays;
      on_eve = on-eve d holidays;
      on_saturday = on-saturday d holidays;
      on_weekday = on-weekday d holidays;
      unlisted_same = unlisted-same d holidays real;
      eve_differs = λ k same. no-saturday (sym (on-listed d holidays k.is_listed) ∙ same ∙ eve-earlier d holidays k);
      else_same = else_same d holidays real;
    }
