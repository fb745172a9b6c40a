-- What questions that passed tell: the laws of asking, the other way round, and by name what an accepted writing has.
-- Assumes nothing.
use mathlib.Core.Path.{◌≡◌}
use mathlib.Core.List.{List}
use Prim.Native.Nat.{ℕ, ◌≤◌}
use lib.ListN.{length}
use borrow.Author.Tests.{leb-true, eqb-true, le-leb, eq-eqb}
use Rattle.refusal.specs.declared.Refusal.TheVariants.{WrongLength}
use Rattle.refusal.specs.Questions.{Pass}
use Rattle.refusal.proofs.Questions.{ask-yes, ask-passed, then-first, then_next, room-passed, both}
use Rattle.file_layout.specs.Header.{layout_of}
use Rattle.file_values.specs.Values.{values_question}
use Rattle.file_check.specs.Check.{codes_question}
use Rattle.file_written.specs.Written.{written}
use Rattle.file_write_check.specs.Inside.{Amounts}
use Rattle.file_write_check.specs.WriteCheck.{amount_question, write_check}

-- question 3 passed
pub amounts : (codes values : List ℕ) → amount_question codes values ≡ Pass → Amounts codes values
unfolding amount_question
amounts codes values h =
    let all = both _ _ (ask-passed _ WrongLength h) in
    let count = both _ _ all.0 in
    record { some = leb-true _ _ count.0; most = leb-true _ _ count.1; each = eqb-true _ _ all.1 }

pub amount-passes : (codes values : List ℕ) → Amounts codes values → amount_question codes values ≡ Pass
unfolding amount_question
amount-passes codes values a =
    ask-yes WrongLength (rw (le-leb _ _ a.some, le-leb _ _ a.most, eq-eqb _ _ a.each))

-- all of writing's questions passed
pub record Writable (codes values : List ℕ) (room : ℕ) : Type 0 where
  pub amount : Amounts codes values
  pub codes_pass : codes_question (layout_of (written codes values)) (written codes values) ≡ Pass
  pub values_pass : values_question (layout_of (written codes values)) (written codes values) ≡ Pass
  pub fits : length (written codes values) ≤ room

pub writable : (codes values : List ℕ) (room : ℕ) → write_check codes values room ≡ Pass → Writable codes values room
unfolding write_check
writable codes values room h =
    let after3 = then_next (amount_question codes values) _ h in
    let after4 = then_next (codes_question (layout_of (written codes values)) (written codes values)) _ after3 in
    let after5 = then_next (values_question (layout_of (written codes values)) (written codes values)) _ after4 in
    record {
      amount = amounts codes values (then-first _ _ h);
      codes_pass = then-first _ _ after3;
      values_pass = then-first _ _ after4;
      fits = room-passed _ _ after5;
    }
