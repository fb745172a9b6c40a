-- `text_columns::put_right_aligned` meets its contract: spaces in front of the number's digits.
use Rattle.std.proofs.Common.{◌≡◌, ◌++◌, ℕ, ◌-◌, ◌^◌, ◌≤◌, ◌<◌, length, arith}
use Rattle.std.proofs.Math.ListN.{length-replicate}
use Rattle.text.specs.declared.Page.{Page}
use Rattle.text.specs.Text.{space, decimal_text}
use Rattle.text.specs.Inside.{Put, Room, last_digits}
use Rattle.text.proofs.Text.{decimal-short, decimal-all}
use Rattle.text.proofs.Puts.{both}
use Rattle.text_columns.specs.Columns.{spaces, right_aligned}
use Rattle.text_columns.proofs.Columns.{length-right}
use Rattle.text_columns.proofs.put_right_aligned.Goals as goal

aligned : (n width : ℕ) {places : ℕ} {a b c : Page} → places ≡ length (decimal_text n) → 1 ≤ width → n < 10 ^ width → Room width a →
    Put (spaces (width - places)) a b → Put (last_digits places n) b c → Put (right_aligned width n) a c
unfolding right_aligned
aligned n width {a = a} {c = c} e some fits room first second =
    let short = decimal-short n width fits some in
    let many = length-replicate (width - length (decimal_text n)) space in
    let text : Put (spaces (width - length (decimal_text n)) ++ decimal_text n) a c =
    both (rw e at first) (rw (decimal-all n) (rw e at second)) (omega arith) in
    text

pub overflow_sub-width : goal.overflow_sub-width
overflow_sub-width c = omega (arith, c.digit_count-places.ensures, decimal-short c.args.n c.args.width c.requires.n_bound c.requires.le_width)

pub put_last_digits-requires : goal.put_last_digits-requires
put_last_digits-requires c =
    let many = length-replicate (c.args.width - c.digit_count-places.result) space in
    let short = decimal-short c.args.n c.args.width c.requires.n_bound c.requires.le_width in
    omega (arith, c.digit_count-places.ensures)

pub returns-clause-put : goal.returns-clause-put
returns-clause-put c =
    aligned c.args.n c.args.width c.digit_count-places.ensures c.requires.le_width c.requires.n_bound c.requires.width_in_bounds
    c.put_spaces.ensures c.put_last_digits.ensures

pub returns-clause-behind : goal.returns-clause-behind
returns-clause-behind c =
    let p = aligned c.args.n c.args.width c.digit_count-places.ensures c.requires.le_width c.requires.n_bound c.requires.width_in_bounds
    c.put_spaces.ensures c.put_last_digits.ensures in
    omega (arith, p.behind, length-right c.args.width c.args.n c.requires.le_width c.requires.n_bound)
