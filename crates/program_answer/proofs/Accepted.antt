-- The lines put for an accepted request are its days' and the last one. Assumes nothing.
use Rattle.std.proofs.Common.{◌≡◌, List, ℕ, arith}
use Rattle.refusal.specs.Questions.{Pass}
use Rattle.calendar_dates.specs.Dates.{date_of}
use Rattle.calendar_period.specs.Period.{PeriodDays, period_days}
use Rattle.carry.specs.declared.Totals.{Totals}
use Rattle.file_group.specs.Group.{table_of}
use Rattle.day_powers.specs.DayQuarters.{basis}
use Rattle.call_request.specs.Request.{Request, days_in, request_check}
use Rattle.call_request.proofs.Sound.{sound}
use Rattle.call_expand.specs.Expanding.{totals}
use Rattle.call_rows.proofs.Rows.{quarters-come-to}
use Rattle.text.specs.declared.Page.{Page}
use Rattle.text.specs.Inside.{Put, Room}
use Rattle.text.proofs.Puts.{both}
use Rattle.text_program_lines.specs.Lines.{day_line, last_line}
use Rattle.text_program_lines.specs.Lengths.{last-line-short}
use Rattle.text_listing.specs.Inside.{Listed}
use Rattle.program_answer.specs.Accepted.{accepted_lines, page_length}

module _ (q : Request) (passed : request_check q ≡ Pass) where
  pub accepted : {values : List ℕ} {period : PeriodDays} {t : Totals} {before middle after : Page} → values ≡ table_of q.file q.group →
      period ≡ period_days (date_of q.first) (date_of q.last) →
      Listed day_line 39 (basis values q.group q.holidays) q.yearly q.carry period.days period.first before t middle →
      Put (last_line period.days t) middle after → Room page_length before → Put (accepted_lines q) before after
  accepted v e l last room =
      let days = rw (v, e) at l in
      let few = (sound q passed).period.short in
      both days.lines (rw (e, quarters-come-to q days.come_to) at last)
      (omega (arith, days.lines.behind, days.short, last-line-short (days_in q) (totals q)))
