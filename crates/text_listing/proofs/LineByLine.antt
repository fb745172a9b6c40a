-- A period's lines, one after the other: what is put, with the lines of the days left, is the whole. Laws for the loop's start, turn
-- and end. What the days come to follows by series' laws of the days left. Assumes nothing.
use Rattle.std.proofs.Common.{◌≡◌, refl, sym, ◌∙◌, ap, ℕ, zero, suc, ◌+◌, ◌*◌, ◌^◌, ◌≤◌, List, [], ◌∷◌, ◌++◌, length, arith}
use mathlib.Core.List.{append_assoc}
use native.Mathlib.Nat.{mul-suc}
use Rattle.std.proofs.lemmas.List.{take-append-drop}
use Rattle.calendar_dates.specs.declared.Date.{Date}
use Rattle.calendar_dates.specs.Dates.{next_day}
use Rattle.calendar_days.specs.declared.DayKind.{DayKind}
use Rattle.calendar_days.specs.Days.{day_kind}
use Rattle.calendar_period.specs.Period.{dates_from}
use Rattle.carry.specs.declared.Totals.{Totals}
use Rattle.carry.specs.Totals.{together}
use Rattle.carry.specs.Carry.{last_carry}
use Rattle.carry.proofs.Carry.{length-figures}
use Rattle.day_powers.specs.DayQuarters.{Basis}
use Rattle.series.specs.Inside.{GroupValues, comes_to, with_kinds}
use Rattle.series.proofs.OneDay.{day_powers}
use Rattle.series.proofs.DayByDay.{SoFar, powers_from, total-fits, day-done}
use Rattle.series_rows.specs.Rows.{Row, row_of, day_row, rows}
use Rattle.text.specs.declared.Page.{Page}
use Rattle.text.specs.Inside.{Put, Room}
use Rattle.text.proofs.Puts.{both}
use Rattle.text_listing.specs.Listing.{line_after_line}
use Rattle.text_listing.proofs.Listing.{few-powers}

module _ (line : DayKind → Row → List ℕ) (b : Basis) (yearly : ℕ) where
  -- the lines of some dates, each with its kind, begun with a carry
  abbrev pub lines_on : List (Date × DayKind) → ℕ → List ℕ
  lines_on [] carry = []
  lines_on (day ∷ days) carry = line day.1 (day_row b yearly day.0 carry) ++ lines_on days (last_carry yearly (day_powers b day.0) carry)

  lines-all : (n : ℕ) (d : Date) (carry : ℕ) → lines_on (with_kinds b.holidays (dates_from n d)) carry ≡ line_after_line line b.holidays (rows b yearly n d carry)
  unfolding rows line_after_line
  lines-all zero d carry = refl
  lines-all (suc n) d carry =
      ap (λ (rest : List ℕ). line (day_kind d b.holidays) (day_row b yearly d carry) ++ rest)
      (lines-all n (next_day d) (last_carry yearly (day_powers b d) carry))

days-left : (holidays : List ℕ) (n : ℕ) (d : Date) → length (with_kinds holidays (dates_from n d)) ≡ n
days-left holidays zero d = refl
days-left holidays (suc n) d = ap suc (days-left holidays n (next_day d))

-- the lines of the days left are still to come
pub record LinesLeft (line : DayKind → Row → List ℕ) (longest : ℕ) (b : Basis) (yearly carry days : ℕ) (first : Date) (entry : Page) (left : List (Date × DayKind)) (totals : Totals) (page : Page) : Type 0 where
  pub done : List ℕ
  pub so_far : SoFar b yearly carry (powers_from b days first) done left totals
  pub text : List ℕ
  pub put : Put text entry page
  pub lines_left : text ++ lines_on line b yearly left totals.carry ≡ line_after_line line b.holidays (rows b yearly days first carry)
  pub short : page.at + longest * length left ≤ entry.at + longest * days

nothing : (page : Page) → Put [] page page
nothing page =
    let here : page.at + 0 ≡ page.at = omega arith in
    record { bytes = rw here (sym (take-append-drop page.at page.bytes.now)); behind = sym here; kept = refl; same_page = refl }

-- no line is put yet
pub none-put : (line : DayKind → Row → List ℕ) (longest : ℕ) {b : Basis} {yearly carry days : ℕ} {first : Date} {entry : Page} →
    SoFar b yearly carry (powers_from b days first) [] (with_kinds b.holidays (dates_from days first)) (record { count = 0; total = 0; carry = carry }) →
    LinesLeft line longest b yearly carry days first entry (with_kinds b.holidays (dates_from days first)) (record { count = 0; total = 0; carry = carry }) entry
none-put line longest {b} {yearly} {carry} {days} {first} {entry} so_far =
    record {
      done = [];
      so_far = so_far;
      text = [];
      put = nothing entry;
      lines_left = lines-all line b yearly days first carry;
      short = rw (days-left b.holidays days first) (omega arith);
    }

module _ {line : DayKind → Row → List ℕ} {longest : ℕ} {b : Basis} {yearly carry days : ℕ} {first : Date} {entry : Page} {left : List (Date × DayKind)} {totals : Totals} {page : Page}
    (l : LinesLeft line longest b yearly carry days first entry left totals page) where
  module _ {d : Date} {kind : DayKind} {rest : List (Date × DayKind)} (e : left ≡ (d, kind) ∷ rest) where
    -- the next line has room behind those so far
    next-short : page.at + longest + longest * length rest ≤ entry.at + longest * days
    next-short = omega (arith, rw e at l.short, mul-suc longest (length rest))

    -- and is put there
    module _ {today : Totals} (t : today ≡ comes_to yearly (day_powers b d) totals.carry) where
      pub few-counted : GroupValues b.values → today.count ≤ 100
      few-counted sound = rw t (few-powers b d sound.whole)

      pub total-room : totals.total + today.total ≤ 146_100 * 10 ^ 9
      total-room = rw t (total-fits l.so_far e)

      pub line-put : {r : Totals} {after : Page} → Put (line kind (row_of d today.count today.total)) page after →
          length (line kind (row_of d today.count today.total)) ≤ longest → Room (longest * days) entry → r ≡ together totals today →
          LinesLeft line longest b yearly carry days first entry rest r after
      line-put {r} {after} put short room h =
          let row : row_of d today.count today.total ≡ day_row b yearly d totals.carry = rw (t, length-figures yearly (day_powers b d) totals.carry) in
          let carry_is : r.carry ≡ last_carry yearly (day_powers b d) totals.carry = rw (h, t) in
          let behind = l.put.behind in
          let step = put.behind in
          let next = next-short in
          record {
            done = l.done ++ day_powers b d;
            so_far = day-done l.so_far e (h ∙ ap (together totals) t);
            text = l.text ++ line kind (row_of d today.count today.total);
            put = both l.put put (omega arith);
            lines_left = rw (row, carry_is) (append_assoc l.text _ _ ∙ (rw e at l.lines_left));
            short = omega arith;
          }
