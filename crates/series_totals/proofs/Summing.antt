-- What a day comes to, and the days of a period, one after the other. Assumes nothing.
use Rattle.std.proofs.Common.{◌≡◌, ℕ, List, ◌∷◌, ◌++◌, ap, ◌∙◌}
use Rattle.calendar_dates.specs.declared.Date.{Date}
use Rattle.calendar_days.specs.declared.Clock.{Clock}
use Rattle.calendar_days.specs.declared.DayKind.{DayKind}
use Rattle.calendar_days.specs.Days.{clock, value_count_under}
use Rattle.carry.specs.declared.Totals.{Totals}
use Rattle.carry.specs.Totals.{together}
use Rattle.carry_quotients.specs.declared.Carried.{Carried}
use Rattle.carry_total.specs.Inside.{DayTotal}
use Rattle.day_powers.specs.DayQuarters.{Basis}
use Rattle.series.specs.Inside.{GroupValues, comes_to}
use Rattle.series.proofs.OneDay.{powers_before, day_powers, changed, counted}
use Rattle.series.proofs.DayByDay.{SoFar, day-done}

pub day-total : (b : Basis) (sound : GroupValues b.values) (d : Date) {all : List ℕ} {c : Clock} {yearly carry n : ℕ} {r : Carried} →
    all ≡ powers_before b d → c ≡ clock d → n ≡ value_count_under c → DayTotal all c yearly carry r →
    ◌≡◌ {A = Totals} (record { count = n; total = r.total; carry = r.carry }) (comes_to yearly (day_powers b d) carry)
day-total b sound d e k same did =
    let n = counted b sound d e k in
    let run = changed b sound d e k in
    rw (same, ← n, did.total_is, did.carry_is, run)

-- what the days so far come to is known, whatever their powers are
pub record Summed (b : Basis) (yearly carry : ℕ) (whole : List ℕ) (left : List (Date × DayKind)) (totals : Totals) : Type 0 where
  pub done : List ℕ
  pub so_far : SoFar b yearly carry whole done left totals

pub day-summed : {b : Basis} {yearly carry : ℕ} {whole : List ℕ} {left : List (Date × DayKind)} {totals : Totals} → (s : Summed b yearly carry whole left totals) →
    {d : Date} {kind : DayKind} {rest : List (Date × DayKind)} → left ≡ (d, kind) ∷ rest → {today r : Totals} →
    today ≡ comes_to yearly (day_powers b d) totals.carry → r ≡ together totals today → Summed b yearly carry whole rest r
day-summed {b} {totals = totals} s {d} e t h = record { done = s.done ++ day_powers b d; so_far = day-done s.so_far e (h ∙ ap (together totals) t) }
