-- `file_write::put_profiles` meets its contract: each profile stands behind those before it, its code and then its values.
use Rattle.std.proofs.Common.{◌≡◌, ◌+◌, ◌-◌, ◌*◌, length, arith, refl}
use lib.ListN.{set, length-set}
use Rattle.lists.proofs.Stores.{some_stored, one-stored, all-stored, part-stored}
use Rattle.file_write.proofs.Buffer.{pair_given, pairs-end}
use Rattle.big_endian.specs.BigEndian.{bytes_of}
use Rattle.file_write.proofs.put_profiles.Goals as goal

pub loop-i-preserved : goal.loop-i-preserved
loop-i-preserved c =
    let i = c.in-Some.i in
    let turn = pair_given c.next.new.self c.loop-i.invariant.0 i c.in-Some.code c.in-Some.part c.in-Some.ensures.steps in
    let at = 6 + i * 1729 in
    let coded = one-stored (rw (← turn.counted) at c.loop-i.invariant.1) turn.profile refl in
    let own = bytes_of c.in-Some.part.now in
    let size : length own ≡ at + 1729 - (at + 1) = omega (arith, turn.full) in
    let memory = set c.loop-i.buffer at c.in-Some.code.now in
    let put = part-stored memory c.put_values.new.part own (at + 1) (at + 1729 - (at + 1)) c.put_values.ensures size
    (omega (arith, turn.below, length-set c.loop-i.buffer at c.in-Some.code.now)) in
    (turn.paired, rw turn.next_counted (some_stored coded own refl put (omega (arith, turn.full))))

pub returns : goal.returns
returns c = all-stored c.loop-i.invariant.1 (pairs-end c.next.new.self c.loop-i.invariant.0 c.in-None.ensures.steps)
