-- What each way through the call comes to, over a request. Assumes nothing.
use Rattle.std.proofs.Common.{◌≡◌, ◌∙◌, ap, ℕ, ◌≤◌, ◌<◌, List, length, Ok, Err, arith}
use native.Mathlib.Nat.{zero-add}
use borrow.Author.Tests.{le-leb, lt-leb, leb-true}
use Rattle.refusal.specs.declared.Refusal.{Refusal}
use Rattle.refusal.specs.declared.Refusal.TheVariants.{ShortPage}
use Rattle.refusal.specs.Questions.{Pass}
use Rattle.refusal.proofs.Questions.{then-pass, refused-first, ask-yes, ask-no, ask-passed}
use Rattle.calendar_dates.specs.Dates.{date_of}
use Rattle.carry.specs.declared.Totals.{Totals}
use Rattle.call_request.specs.Request.{Request, days_in, basis_of, request_check}
use Rattle.call_expansion.specs.Answered.{Expansion, reported}
use Rattle.call_rows.proofs.Rows.{quarters-come-to}
use Rattle.text.specs.declared.Page.{Page}
use Rattle.text.specs.Inside.{Put}
use Rattle.text.proofs.Puts.{both}
use Rattle.text_page_lines.specs.PageLines.{day_type_width, line_length, day_page_line, last_page_line}
use Rattle.text_page_lines.proofs.PageLines.{last-line-length}
use Rattle.text_listing.specs.Inside.{Listed}
use Rattle.call_page.specs.Page.{page_text, bytes_needed, page_question, page_check, page_answer, page_after, Prints}

-- question 19
module _ (days room : ℕ) where
  pub page-enough : bytes_needed days ≤ room → page_question days room ≡ Pass
  unfolding page_question
  page-enough h = ask-yes (ShortPage (bytes_needed days)) (le-leb (bytes_needed days) room h)

  pub page-short : room < bytes_needed days → page_question days room ≡ Err (ShortPage (bytes_needed days))
  unfolding page_question
  page-short h = ask-no (ShortPage (bytes_needed days)) (lt-leb (bytes_needed days) room h)

  pub page-passed : page_question days room ≡ Pass → bytes_needed days ≤ room
  unfolding page_question
  page-passed h = leb-true (bytes_needed days) room (ask-passed _ (ShortPage (bytes_needed days)) h)

module _ (q : Request) where
  refused : {r : Refusal} {answer : Expansion} → answer ≡ Err r → page_check q ≡ Err r → Prints q answer q.output
  unfolding page_answer page_after
  refused a e = rw a (record { answers = rw e; reports = rw e; leaves = rw e })

  -- by questions 1 to 11
  pub request-refused : {r : Refusal} {answer : Expansion} → answer ≡ Err r → request_check q ≡ Err r → Prints q answer q.output
  unfolding page_check
  request-refused a e = refused a (refused-first _ e)

  -- by question 19
  pub page-refused : {r : Refusal} {answer : Expansion} → answer ≡ Err r → request_check q ≡ Pass →
      page_question (days_in q) (length q.output) ≡ Err r → Prints q answer q.output
  unfolding page_check
  page-refused a p e = refused a (then-pass _ p ∙ e)

  -- by none: the lines of the days, and the last one behind them
  pub printed : {before middle after : Page} {t : Totals} {page : List ℕ} → request_check q ≡ Pass → page_question (days_in q) (length q.output) ≡ Pass →
      before.bytes.now ≡ q.output → before.at ≡ 0 →
      Listed day_page_line (line_length day_type_width) (basis_of q) q.yearly q.carry (days_in q) (date_of q.first) before t middle →
      Put (last_page_line t) middle after → page ≡ after.bytes.now → Prints q (Ok t) page
  unfolding page_check page_answer page_after page_text
  printed {before} {middle} {after} {t} p asked output start l last left =
      let room = page-passed (days_in q) (length q.output) asked in
      let size = ap (λ (bytes : List ℕ). length bytes) output in
      let all = quarters-come-to q l.come_to in
      let long = last-line-length t (omega (arith, l.few)) (omega (arith, l.most)) in
      let days = l.lines in
      let pass : page_check q ≡ Pass = then-pass _ p ∙ asked in
      let text : Put (page_text q) before after = rw all at (both days last (omega (arith, days.behind, l.short))) in
      let answer : Ok t ≡ page_answer q = rw (pass, all) in
      record { answers = answer; reports = ap reported answer; leaves = rw pass (left ∙ (rw (output, start, zero-add (length (page_text q))) at text.bytes)) }
