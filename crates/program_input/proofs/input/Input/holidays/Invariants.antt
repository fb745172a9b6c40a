-- What each turn of the loop keeps: with the entries left behind them, those read so far come to the whole.
use Rattle.std.proofs.Common.{◌≡◌, ◌+◌, ◌*◌, ◌-◌, ◌++◌, length}
use Rattle.big_endian.specs.BigEndian.{longs_from}
use Rattle.program_input.specs.Input.{head_length, list_length}
use Rattle.program_input.specs.Inside.{asked_entries}
use Rattle.program_input.proofs.input.Input.holidays.Given as goal

abbrev pub invariant-loop-i : goal.invariant-loop-i
invariant-loop-i l =
    let input = l.self-inside.bytes.now in
    let n = asked_entries (list_length input) in (length l.holidays.items ≡ l.i)
    × (l.holidays.items ++ longs_from input (n - l.i) (head_length + l.i * 4) ≡ longs_from input n head_length)
