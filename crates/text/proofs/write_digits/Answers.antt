-- `text::write_digits` meets its contract. The invariant: what is left to write, and the digits written, are the number's last digits.
use Rattle.std.proofs.Common.{◌≡◌, ◌∙◌, List, ◌++◌, ℕ, zero, suc, ◌-◌, ◌/◌, ◌%◌, ◌≤◌, ◌<◌, length, drop, arith, append_assoc, add-one}
use Rattle.std.proofs.Math.ListN.{set}
use Rattle.std.proofs.lemmas.List.{drop-set}
use Rattle.text.specs.Text.{digit}
use Rattle.text.specs.Inside.{last_digits}
use Rattle.text.proofs.write_digits.Goals as goal

turn : (left rest : ℕ) (places : List ℕ) → 0 < left → left ≤ length places →
    last_digits (left - 1) (rest / 10) ++ drop (left - 1) (set places (left - 1) (digit (rest % 10))) ≡ last_digits left rest ++ drop left places
unfolding last_digits
turn zero rest places some inside = absurd (omega arith)
turn (suc left) rest places some inside =
    let less : suc left - 1 ≡ left = omega arith in
    let fits : left < length places = omega arith in
    rw (less, drop-set places left (digit (rest % 10)) fits, add-one left, append_assoc)

pub loop-place-preserved : goal.loop-place-preserved
loop-place-preserved c =
    let l = c.loop-place in
    turn l.place l.rest l.places (omega arith) (omega arith) ∙ l.invariant

pub returns : goal.returns
unfolding last_digits
returns c =
    let l = c.loop-place in
    let none : l.place ≡ 0 = omega arith in
    rw none at l.invariant
