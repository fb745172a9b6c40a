-- What it tells that question 14, and that question 16, passed. Assumes nothing.
use mathlib.Core.Path.{◌≡◌}
use Prim.Native.Nat.{ℕ, ◌≤◌}
use lib.Dec.{leb}
use borrow.Author.Tests.{leb-true}
use Rattle.refusal.specs.declared.Refusal.TheVariants.{BadYear, ShortList}
use Rattle.refusal.specs.Questions.{Pass}
use Rattle.refusal.proofs.Questions.{ask-passed, both}
use Rattle.calendar_movable_days.specs.Inside.{InSpan}
use Rattle.call_holidays.specs.Holidays.{year_question, list_question}

pub year-passed : (year : ℕ) → year_question year ≡ Pass → InSpan year
unfolding year_question
year-passed year h =
    let parts = both (leb 1996 year) (leb year 2099) (ask-passed _ BadYear h) in
    record { from = leb-true 1996 year parts.0; to = leb-true year 2099 parts.1 }

pub list_passed : (needed room : ℕ) → list_question needed room ≡ Pass → needed ≤ room
unfolding list_question
list_passed needed room h = leb-true needed room (ask-passed _ (ShortList needed) h)
