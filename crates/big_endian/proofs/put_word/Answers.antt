-- `big_endian::put_word` meets its contract: the two bytes copied are the number's.
use Rattle.std.proofs.Common.{◌≡◌, arith, ◌/◌, ◌%◌, ◌+◌, ◌-◌, [], ◌∷◌}
use Rattle.lists.proofs.Stores.{part-stored}
use Rattle.big_endian.specs.BigEndian.{bytes_of}
use Rattle.big_endian.proofs.put_word.Goals as goal

pub returns : goal.returns
unfolding bytes_of
returns c =
    let a = c.args in
    let high : a.value / 256 % 256 ≡ a.value / 256 = omega arith in
    part-stored a.buffer.now c.copy_from_slice.new.self (a.value / 256 ∷ a.value % 256 ∷ []) a.at (a.at + 2 - a.at)
    (cc)
    (omega arith)
    (omega arith)
