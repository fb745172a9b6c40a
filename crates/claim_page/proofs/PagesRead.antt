-- What is read on the page after an accepted call: its lines lie one after the other (proofs/Lines.antt), what is written in a field is
-- read there (proofs/ReadBack.antt), and a request's rows add up to its totals. Assumes nothing.
use Rattle.refusal.specs.Questions.{answered, Verdict, Pass, refusal_number}
use Rattle.std.specs.Prelude.{Ok, Err}
use mathlib.Core.Path.{◌≡◌, refl, sym, ◌∙◌, ap}
use mathlib.Core.Bool.{true}
use mathlib.Core.Logic.{⊎_elim}
use mathlib.Core.List.{List, [], ◌∷◌, ◌++◌, append_assoc, map}
use Prim.Native.Nat.{ℕ, suc, ◌+◌, ◌-◌, ◌*◌, ◌^◌, ◌≤◌, ◌<◌}
use native.Mathlib.Omega.{arith}
use native.Mathlib.Nat.{add-zero, zero-add, eq-zero-or-pos}
use lib.ListN.{length, take, drop, replicate, length-append}
use borrow.Author.Tests.{eq-eqb}
use Rattle.lists.specs.Lists.{sum, Each, each_from}
use Rattle.refusal.proofs.Questions.{then-pass, then-first, refused-first, number-above-0}
use Rattle.calendar_dates.specs.Dates.{is_date, date_of}
use Rattle.calendar_days.specs.Days.{day_kind}
use Rattle.calendar_laws.proofs.Periods.{period-days}
use Rattle.series_rows.specs.Rows.{Row, row_of}
use Rattle.call_request.specs.Request.{Request, days_in, series, request_check}
use Rattle.call_request.proofs.Sound.{sound}
use Rattle.call_request_laws.specs.Fits.{LongestSeries, LargestTotal}
use Rattle.call_request_laws.proofs.Fits.{longest-series, largest-total}
use Rattle.call_expansion.specs.declared.ExpansionReport.{ExpansionReport}
use Rattle.call_expansion.specs.Answered.{reported}
use Rattle.call_expand.specs.Expanding.{totals}
use Rattle.call_rows.specs.Rows.{rows_of, date_of_day, on_day, AsExpanded, RowsAsExpanded}
use Rattle.call_rows.proofs.Rows.{rows-as-expanded}
use Rattle.text.specs.Text.{hyphen, date_text}
use Rattle.text.proofs.Text.{decimal-short}
use Rattle.text_fields.specs.Fields.{day_type_text, total_word}
use Rattle.text_columns.specs.Columns.{left_aligned}
use Rattle.text_page_lines.specs.PageLines.{last_page_line}
use Rattle.text_page_lines.proofs.PageLines.{last-line-length}
use Rattle.call_page.specs.Page.{page_text, page_check, page_answer, page_after, Reports}
use Rattle.call_page.proofs.Page.{page-enough, page-short}
use Rattle.claim_page.specs.ReadBack.{Read, number, none, read_date, line_on, Parted, date_on, count_on, watt_hours_on, added}
use Rattle.claim_page.specs.PagesRead.{DayRead, PageRead, WidthsEnough, AskedAsExpanding, PagesRead}
use Rattle.claim_page.proofs.ReadBack.{read-date}
use Rattle.claim_page.proofs.Lines.{LineRead, line_read, Narrow, narrow_at, all-narrow, lines, lines-length, line_at, last-at}

-- what is read on lines from `at` on, where each says its row's number, adds up to the rows'
read-sum : (figure : Row → ℕ) (on : ℕ → Read) (rows : List Row) (at : ℕ) →
    ((i : ℕ) (row : Row) → take 1 (drop i rows) ≡ row ∷ [] → on (at + i) ≡ number (figure row)) →
    added (each_from on 1 (length rows) at) ≡ number (sum (map figure rows))
unfolding each_from added sum
read-sum figure on [] at says = refl
read-sum figure on (row ∷ rows) at says =
    let first : on at ≡ number (figure row) = rw (add-zero at) at (says 0 row refl) in
    rw (first, read-sum figure on rows (at + 1) (λ i r e. let next : at + 1 + i ≡ at + suc i = omega arith in rw next (says (suc i) r e)))

-- what holds of rows that fit
each_of : {property : Row → Type 0} (rows : List Row) → Each Narrow rows → ((row : Row) → Narrow row → property row) → Each property rows
each_of [] all holds = tt
each_of (row ∷ rows) all holds = (holds row all.0, each_of rows all.1 holds)

-- an accepted request
module _ (q : Request) (passed : request_check q ≡ Pass) where
  as-expanded : AsExpanded q
  unfolding RowsAsExpanded
  as-expanded = rows-as-expanded q

  few : (totals q).count ≤ 146_100
  unfolding LongestSeries
  few = longest-series q passed

  most : (totals q).total ≤ 146_100 * 10 ^ 9
  unfolding LargestTotal
  most = largest-total q passed

  narrow : Each Narrow (rows_of q)
  narrow = all-narrow (rows_of q) (omega (arith, as-expanded.counts, few)) (omega (arith, as-expanded.watt_hours, most))

  last-length : length (last_page_line (totals q)) ≡ 38
  last-length = last-line-length (totals q) (omega (arith, few)) (omega (arith, most))

  page-length : length (page_text q) ≡ 38 * (days_in q + 1)
  unfolding page_text
  page-length =
      omega (arith, length-append (lines q.holidays (rows_of q)) (last_page_line (totals q)), lines-length q.holidays (rows_of q) narrow, as-expanded.days, last-length)

  real : (k : ℕ) → k < days_in q → is_date (date_of_day q k) ≡ true
  real k inside =
      let p = (sound q passed).period in
      (period-days (date_of q.first) (date_of q.last) p.dates-first p.dates-last p.ordered).dates k inside

  -- a page that begins with its text
  module _ (page : List ℕ) (beyond : List ℕ) (begins : page ≡ page_text q ++ beyond) where
    placed : page ≡ lines q.holidays (rows_of q) ++ (last_page_line (totals q) ++ beyond)
    unfolding page_text
    placed = begins ∙ append_assoc (lines q.holidays (rows_of q)) (last_page_line (totals q)) beyond

    -- what is read on a row's line
    row_read : (k : ℕ) (row : Row) → take 1 (drop k (rows_of q)) ≡ row ∷ [] →
        LineRead 2 page k (date_text row.date) (day_type_text (day_kind row.date q.holidays)) row.count row.watt_hours
    unfolding line_on
    row_read k row at =
        let fits = narrow_at (rows_of q) k row narrow at in
        line_read 2 page k (date_text row.date) (day_type_text (day_kind row.date q.holidays)) row.count row.watt_hours
        (rw placed (line_at q.holidays (rows_of q) (last_page_line (totals q) ++ beyond) k narrow at))
        refl refl fits.0 fits.1

    day-read : (k : ℕ) → k < days_in q → DayRead q page k
    unfolding series
    day-read k inside =
        let day = as-expanded.day k passed inside in
        let r = row_read k (row_of (date_of_day q k) (totals (on_day q k)).count (totals (on_day q k)).total) day.row in
        record {
          date = rw r.first-is (read-date (date_of_day q k) (real k inside));
          day_type = r.type-is;
          count = r.count-is;
          watt_hours = r.energy-is;
          as_expanded = day.answer;
        }

    -- and on the last line
    last-read : LineRead 2 page (days_in q) (left_aligned 10 total_word) (replicate 2 hyphen) (totals q).count (totals q).total
    unfolding line_on
    last-read =
        line_read 2 page (days_in q) (left_aligned 10 total_word) (replicate 2 hyphen) (totals q).count (totals q).total
        (rw placed (last-at q.holidays (rows_of q) (last_page_line (totals q)) beyond (days_in q) narrow as-expanded.days last-length))
        refl refl (omega (arith, few)) (omega (arith, most))

    -- which has no date
    no-date : date_on 2 page (days_in q) ≡ none
    unfolding read_date
    no-date = rw last-read.first-is

    -- each line is a row's, or the last one
    line-parted : (i : ℕ) → i ≤ days_in q → Parted 2 page i
    line-parted i h =
        ⊎_elim
        (λ (e : days_in q - i ≡ 0). let last : i ≡ days_in q = omega arith in rw last last-read.parted-is)
        (λ (some : 0 < days_in q - i). (row_read i _ (as-expanded.day i passed (omega arith)).row).parted-is)
        (eq-zero-or-pos (days_in q - i))

    counts-add-up : count_on 2 page (days_in q) ≡ added (each_from (count_on 2 page) 1 (days_in q) 0)
    counts-add-up =
        last-read.count-is ∙ ap number (sym as-expanded.counts)
        ∙ sym (read-sum (λ row. row.count) (count_on 2 page) (rows_of q) 0 (λ i row e. rw (zero-add i) (row_read i row e).count-is))
        ∙ ap (λ (n : ℕ). added (each_from (count_on 2 page) 1 n 0)) as-expanded.days

    watt-hours-add-up : watt_hours_on 2 page (days_in q) ≡ added (each_from (watt_hours_on 2 page) 1 (days_in q) 0)
    watt-hours-add-up =
        last-read.energy-is ∙ ap number (sym as-expanded.watt_hours)
        ∙ sym (read-sum (λ row. row.watt_hours) (watt_hours_on 2 page) (rows_of q) 0 (λ i row e. rw (zero-add i) (row_read i row e).energy-is))
        ∙ ap (λ (n : ℕ). added (each_from (watt_hours_on 2 page) 1 n 0)) as-expanded.days

    page-read : {report : ExpansionReport} → report ≡ reported (Ok (totals q)) → page ≡ page_text q ++ drop (38 * (days_in q + 1)) q.output →
        PageRead q report page
    page-read e left =
        record {
          answer = e;
          as_expanded = as-expanded.whole passed;
          bytes = page-length;
          leaves = left;
          parted = line-parted;
          day = day-read;
          total_word = last-read.first-is;
          hyphens = last-read.type-is;
          no_date = no-date;
          count = rw e last-read.count-is;
          watt_hours = rw e last-read.energy-is;
          counts_add_up = counts-add-up;
          watt_hours_add_up = watt-hours-add-up;
        }

  widths-enough : WidthsEnough q
  widths-enough =
      let short = (sound q passed).period.short in
      record {
        counts = each_of (rows_of q) narrow (λ row fits. decimal-short row.count _ (omega (arith, fits.0)) (omega arith));
        watt_hours = each_of (rows_of q) narrow (λ row fits. decimal-short row.watt_hours _ (omega (arith, fits.1)) (omega arith));
        count = decimal-short (totals q).count _ (omega (arith, few)) (omega arith);
        total = decimal-short (totals q).total _ (omega (arith, most)) (omega arith);
        longest = omega arith;
      }

-- an accepted call is one whose questions all passed
no-refusal : (q : Request) (v : Verdict) → (reported (answered v (totals q))).number ≡ 0 → v ≡ Pass
no-refusal q (Ok _) h = refl
no-refusal q (Err r) h = let n = number-above-0 r in let z = eq-eqb (refusal_number r) 0 h in cc

accepted : (q : Request) (report : ExpansionReport) (after : List ℕ) → Reports q report after → report.number ≡ 0 → PageRead q report after
unfolding page_check page_answer page_after
accepted q report after e h =
    let pass = no-refusal q (page_check q) (rw e.answers at h) in
    let passed = then-first (request_check q) _ pass in
    let left : after ≡ page_text q ++ drop (length (page_text q)) q.output = rw pass at e.leaves in
    page-read q passed after (drop (length (page_text q)) q.output) left (rw pass at e.answers) (rw (page-length q passed) at left)

asked-as-expanding : (q : Request) → AskedAsExpanding q
unfolding RowsAsExpanded page_check page_answer
asked-as-expanding q =
    record {
      refused = λ output r e. ap (λ (v : Verdict). answered v (totals q)) (refused-first _ e) ∙ sym ((rows-as-expanded q).refused output r e);
      accepted = λ p room. then-pass _ p ∙ page-enough (days_in q) (length q.output) room;
      short = λ p room. ap (λ (v : Verdict). reported (answered v (totals q))) (then-pass _ p ∙ page-short (days_in q) (length q.output) room);
    }

pub pages-read : PagesRead
unfolding PagesRead
pages-read = (accepted, λ q answer after e. record { answers = e.reports; leaves = e.leaves }, widths-enough, asked-as-expanding)
