-- `Input::holidays` meets its contract: each turn puts the next entry behind those read so far.
use Rattle.std.proofs.Common.{arith, ap, sym, ◌∙◌, ◌≡◌, ◌+◌, ◌*◌, ◌-◌}
use mathlib.Core.List.{append-nil, append_assoc}
use Rattle.lists.proofs.Strides.{places-next, places-end}
use Rattle.big_endian.specs.BigEndian.{long_at}
use Rattle.program_input.specs.declared.input.Head.{Head}
use Rattle.program_input.specs.Input.{head_length, list_length}
use Rattle.program_input.specs.Inside.{asked_entries}
use Rattle.program_input.proofs.input.Input.holidays.Goals as goal

pub loop-i-preserved : goal.loop-i-preserved
loop-i-preserved c =
    let l = c.loop-i in
    let input = c.self.inside.bytes.now in
    let n = asked_entries (list_length input) in
    let end : c.min-i-end.result ≡ n = c.min-i-end.ensures ∙ ap (λ (h : Head). asked_entries h.listed) c.self.invariant.1 in
    let next = places-next (long_at input) 4 (n - l.i) (head_length + l.i * 4) (omega arith) in
    let fewer : n - (l.i + 1) ≡ n - l.i - 1 = omega arith in
    let behind : head_length + (l.i + 1) * 4 ≡ head_length + l.i * 4 + 4 = omega arith in
    (omega arith, rw (c.push.ensures.items, c.long_at.ensures, fewer, behind) (append_assoc l.holidays.items _ _ ∙ (rw next at l.invariant.1)))

pub returns : goal.returns
returns c =
    let l = c.loop-i in
    let input = c.self.inside.bytes.now in
    let n = asked_entries (list_length input) in
    let end : c.min-i-end.result ≡ n = c.min-i-end.ensures ∙ ap (λ (h : Head). asked_entries h.listed) c.self.invariant.1 in
    let none = places-end (long_at input) 4 (n - l.i) (head_length + l.i * 4) (omega arith) in
    rw (← c.self.view_is) (sym (append-nil l.holidays.items) ∙ (rw none at l.invariant.1))
