-- Two dates of one year have the order of month and day. Assumes nothing.
use mathlib.Core.Path.{◌≡◌, refl, sym}
use mathlib.Core.Bool.{Bool, true, false}
use Prim.Native.Nat.{◌≤◌}
use native.Mathlib.Nat.{le_refl}
use native.Mathlib.Omega.{arith}
use lib.Dec.{leb, ltb, eqb}
use borrow.Author.Tests.{le-leb, lt-leb, le-ltb, ltb-true, ltb-false, eq-eqb, eqb-true, eqb-false}
use Rattle.std.specs.Ordering.{partial_le}
use Rattle.calendar_dates.specs.declared.Date.{Date}
use Rattle.calendar_dates.specs.contracts.DatePartialOrd.TheImpl.{partial_cmp-value}
use Rattle.calendar_days.specs.Days.{month_day}

pub compared : (a b : Date) → a.year ≡ b.year → a.day ≤ 31 → b.day ≤ 31 → partial_le partial_cmp-value.it a b ≡ leb (month_day a) (month_day b)
compared a b e m n = go (ltb a.month b.month) refl (eqb a.month b.month) refl (ltb a.day b.day) refl (eqb a.day b.day) refl
  where
    go : (p : Bool) → ltb a.month b.month ≡ p → (q : Bool) → eqb a.month b.month ≡ q → (r : Bool) → ltb a.day b.day ≡ r → (s : Bool) → eqb a.day b.day ≡ s →
        partial_le partial_cmp-value.it a b ≡ leb (month_day a) (month_day b)
    go true h q i r j s k =
        rw (e, le-ltb b.year b.year (le_refl b.year), eq-eqb b.year b.year refl, h) (sym (le-leb _ _ (omega (arith, ltb-true a.month b.month h))))
    go false h false i r j s k =
        rw (e, le-ltb b.year b.year (le_refl b.year), eq-eqb b.year b.year refl, h, i)
        (sym (lt-leb _ _ (omega (arith, ltb-false a.month b.month h, eqb-false a.month b.month i))))
    go false h true i true j s k =
        rw (e, le-ltb b.year b.year (le_refl b.year), eq-eqb b.year b.year refl, h, i, j)
        (sym (le-leb _ _ (omega (arith, eqb-true a.month b.month i, ltb-true a.day b.day j))))
    go false h true i false j true k =
        rw (e, le-ltb b.year b.year (le_refl b.year), eq-eqb b.year b.year refl, h, i, j, k)
        (sym (le-leb _ _ (omega (arith, eqb-true a.month b.month i, eqb-true a.day b.day k))))
    go false h true i false j false k =
        rw (e, le-ltb b.year b.year (le_refl b.year), eq-eqb b.year b.year refl, h, i, j, k)
        (sym (lt-leb _ _ (omega (arith, eqb-true a.month b.month i, ltb-false a.day b.day j, eqb-false a.day b.day k))))
