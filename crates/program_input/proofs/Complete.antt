-- What question 13 tells of an input that passes it. Assumes nothing.
use mathlib.Core.Path.{◌≡◌}
use mathlib.Core.List.{List}
use Prim.Native.Nat.{ℕ}
use borrow.Author.Tests.{leb-true}
use Rattle.refusal.specs.declared.Refusal.TheVariants.{BadInput}
use Rattle.refusal.specs.Questions.{Pass}
use Rattle.refusal.proofs.Questions.{ask-passed, both}
use Rattle.program_input.specs.Input.{input_question}
use Rattle.program_input.specs.Inside.{CompleteInput}

pub complete : (input : List ℕ) → input_question input ≡ Pass → CompleteInput input
unfolding input_question
complete input h =
    let all = both _ _ (ask-passed _ BadInput h) in
    let two = both _ _ all.0 in
    record { small = leb-true _ _ two.0; head = leb-true _ _ two.1; list = leb-true _ _ all.1 }
