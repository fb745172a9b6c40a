-- Document 02, (e): what is read on the page after an accepted call.
use Rattle.std.specs.Prelude.{Ok, Err, ◌≡◌, List, [], ◌∷◌, ◌++◌, ℕ, ◌+◌, ◌*◌, ◌≤◌, ◌<◌, length, drop}
use Rattle.lists.specs.Lists.{Each, each_from}
use Rattle.refusal.specs.declared.Refusal.{Refusal}
use Rattle.refusal.specs.Questions.{Pass}
use Rattle.calendar_dates.specs.Dates.{number_of}
use Rattle.calendar_days.specs.Days.{day_kind}
use Rattle.call_request.specs.Request.{Request, days_in, request_check}
use Rattle.call_expansion.specs.Answered.{Expansion, reported}
use Rattle.call_expansion.specs.declared.ExpansionReport.{ExpansionReport}
use Rattle.call_expand.specs.Expanding.{totals, expansion, lent, IsExpanded}
use Rattle.call_rows.specs.Rows.{rows_of, date_of_day, on_day}
use Rattle.text.specs.Text.{decimal_text}
use Rattle.text_fields.specs.Fields.{day_type_text}
use Rattle.call_page.specs.Page.{page_text, bytes_needed, page_check, page_answer, Prints, Reports}
use Rattle.claim_page.specs.ReadBack.{number, none, Parted, first_on, day_type_on, date_on, count_on, watt_hours_on, added}

-- what the line of day k says: "its own date", its day type, and what a call of expanding for that day alone answers, begun with the
-- carry that the days before it leave
pub record DayRead (q : Request) (page : List ℕ) (k : ℕ) : Type 0 where
  pub date : date_on 2 page k ≡ number (number_of (date_of_day q k))
  pub day_type : day_type_on 2 page k ≡ day_type_text (day_kind (date_of_day q k) q.holidays)
  pub count : count_on 2 page k ≡ number (totals (on_day q k)).count
  pub watt_hours : watt_hours_on 2 page k ≡ number (totals (on_day q k)).total
  pub as_expanded : IsExpanded (on_day q k)

-- what an accepted call answers, and what its page says
pub record PageRead (q : Request) (report : ExpansionReport) (page : List ℕ) : Type 0 where
  -- "Expanding's .. answer"
  pub answer : report ≡ reported (Ok (totals q))
  pub as_expanded : IsExpanded q
  -- "38 bytes" for each day and for the last line; what was beyond is kept
  pub bytes : length (page_text q) ≡ 38 * (days_in q + 1)
  pub leaves : page ≡ page_text q ++ drop (38 * (days_in q + 1)) q.output
  -- on every line one space between two fields, and LF behind them
  pub parted : (i : ℕ) → i ≤ days_in q → Parted 2 page i
  -- "Each day of an expanding call has, in order, a line"
  pub day : (k : ℕ) → k < days_in q → DayRead q page k
  -- "The last line has "total" left-aligned in the first field and two hyphens as day type."
  pub total_word : first_on 2 page (days_in q) ≡ 116 ∷ 111 ∷ 116 ∷ 97 ∷ 108 ∷ 32 ∷ 32 ∷ 32 ∷ 32 ∷ 32 ∷ []
  pub hyphens : day_type_on 2 page (days_in q) ≡ 45 ∷ 45 ∷ []
  -- so it is the first line without a date
  pub no_date : date_on 2 page (days_in q) ≡ none
  -- its count and Wh are those answered
  pub count : count_on 2 page (days_in q) ≡ number report.count
  pub watt_hours : watt_hours_on 2 page (days_in q) ≡ number report.total
  -- "Its count and Wh equal the sums of the numbers on the lines above, as read back from the page itself."
  pub counts_add_up : count_on 2 page (days_in q) ≡ added (each_from (count_on 2 page) 1 (days_in q) 0)
  pub watt_hours_add_up : watt_hours_on 2 page (days_in q) ≡ added (each_from (watt_hours_on 2 page) 1 (days_in q) 0)

-- "count right-aligned (6)", "Wh right-aligned (16)": the widths are enough, for the largest request too
pub record WidthsEnough (q : Request) : Type 0 where
  pub counts : Each (λ row. length (decimal_text row.count) ≤ 6) (rows_of q)
  pub watt_hours : Each (λ row. length (decimal_text row.watt_hours) ≤ 16) (rows_of q)
  pub count : length (decimal_text (totals q).count) ≤ 6
  pub total : length (decimal_text (totals q).total) ≤ 16
  -- no page needs more bytes than this
  pub longest : bytes_needed (days_in q) ≤ 55_556

-- "Expanding's .. questions, but in place of 12": what 1 to 11 refuse expanding refuses too, with the same answer, and what they pass
-- is accepted where the page is long enough, else refused by 19, "place = bytes needed"
pub record AskedAsExpanding (q : Request) : Type 0 where
  pub refused : (output : List ℕ) (r : Refusal) → request_check q ≡ Err r → page_answer q ≡ expansion (lent q output)
  pub accepted : request_check q ≡ Pass → 38 * (days_in q + 1) ≤ length q.output → page_check q ≡ Pass
  pub short : request_check q ≡ Pass → length q.output < 38 * (days_in q + 1) →
      reported (page_answer q) ≡ record { number = 19; place = 38 * (days_in q + 1); count = 0; total = 0; carry = 0 }

-- the theorem, of every call that keeps to the contract of the exported one and is accepted, its number being 0; the calls of
-- `call_page::day_page` are among these. And of every request: the widths and the questions. Proved in proofs/PagesRead.antt.
unfoldable pub PagesRead : Type 0
PagesRead =
    ((q : Request) (report : ExpansionReport) (after : List ℕ) → Reports q report after → report.number ≡ 0 → PageRead q report after)
    × ((q : Request) (answer : Expansion) (after : List ℕ) → Prints q answer after → Reports q (reported answer) after)
    × ((q : Request) → request_check q ≡ Pass → WidthsEnough q)
    × ((q : Request) → AskedAsExpanding q)
