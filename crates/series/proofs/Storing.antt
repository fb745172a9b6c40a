-- The figures of a period's days, stored one day behind the other. Assumes nothing.
use Rattle.std.proofs.Common.{◌≡◌, refl, ℕ, ◌+◌, ◌-◌, ◌≤◌, List, [], ◌∷◌, ◌++◌, length, length-append, take, drop, ◌∙◌, sym, ap, arith}
use borrow.Rule.Slice.PartMut.{put_mid}
use Rattle.lists.proofs.Stores.{stored-behind}
use Rattle.calendar_days.specs.declared.DayKind.{DayKind}
use Rattle.calendar_dates.specs.declared.Date.{Date}
use Rattle.carry.specs.declared.Totals.{Totals}
use Rattle.carry.specs.Totals.{together}
use Rattle.carry.specs.Carry.{figures}
use Rattle.carry.proofs.Carry.{figures-append, length-figures}
use Rattle.day_powers.specs.DayQuarters.{Basis}
use Rattle.series.specs.Inside.{Filled}
use Rattle.series.proofs.OneDay.{day_powers}
use Rattle.series.proofs.DayByDay.{SoFar, count-fits, day-done}

-- the figures of the days so far stand in front of the output, whose whole will have room
pub record Stored (b : Basis) (yearly carry : ℕ) (whole : List ℕ) (left : List (Date × DayKind)) (totals : Totals) (entry out : List ℕ) : Type 0 where
  pub done : List ℕ
  pub so_far : SoFar b yearly carry whole done left totals
  pub stored : out ≡ figures yearly done carry ++ drop (length done) entry
  pub room : length whole ≤ length entry

-- no figure is stored yet
pub none-stored : {b : Basis} {yearly carry : ℕ} {whole : List ℕ} {left : List (Date × DayKind)} {totals : Totals} {entry : List ℕ} →
    SoFar b yearly carry whole [] left totals → length whole ≤ length entry → Stored b yearly carry whole left totals entry entry
unfolding figures
none-stored so_far room = record { done = []; so_far = so_far; stored = refl; room = room }

module _ {b : Basis} {yearly carry : ℕ} {whole : List ℕ} {left : List (Date × DayKind)} {totals : Totals} {entry out : List ℕ}
    (s : Stored b yearly carry whole left totals entry out) where
  module _ {d : Date} {kind : DayKind} {rest : List (Date × DayKind)} (e : left ≡ (d, kind) ∷ rest) where
    -- the next day has room behind those so far
    pub day-room : totals.count + length (day_powers b d) ≤ length entry
    day-room =
        let room = s.room in
        omega (arith, count-fits s.so_far e)

    -- and is stored there
    pub day-stored : {today r : Totals} {part : List ℕ} →
        Filled yearly (day_powers b d) totals.carry (take (length out - totals.count) (drop totals.count out)) today part → r ≡ together totals today →
        Stored b yearly carry whole rest r entry (put_mid totals.count (length out - totals.count) out part)
    day-stored {today} {part = part} f h =
        let day = day_powers b d in
        let count = ap (λ (t : Totals). t.count) s.so_far.come_to in
        let carry_is = ap (λ (t : Totals). t.carry) s.so_far.come_to in
        let room = day-room in
        let parts =
        stored-behind (figures yearly s.done carry) (figures yearly day totals.carry) entry totals.count (length day)
        (length-figures yearly s.done carry ∙ sym count) (length-figures yearly day totals.carry) room (rw count s.stored) f.stored in
        record {
          done = s.done ++ day;
          so_far = day-done s.so_far e (h ∙ ap (together totals) f.totals);
          stored = parts ∙ rw (count, carry_is, figures-append yearly s.done day carry, length-append s.done day);
          room = s.room;
        }
