-- `day_powers::powers_of` meets its contract. The loop's invariant: the powers so far are the table's (proofs/DayTable.antt).
use Rattle.std.proofs.Common.{sym, refl, ◌∙◌, arith}
use Rattle.std.proofs.Math.ListN.{length-set}
use Rattle.day_powers.proofs.DayTable.{length-powers, power_at, one_more, all-stored}
use Rattle.day_powers.proofs.powers_of.Goals as goal

pub loop-i-preserved : goal.loop-i-preserved
loop-i-preserved c =
    let l = c.loop-i in
    let inside = c.requires.day_table_inside in
    let q = power_at inside l.i (omega arith) refl c.args.f ∙ sym c.power.ensures in
    let all = length-powers inside c.args.f in
    (simp length-set l.invariant.0, one_more l.i l.power-items _ (omega arith) (omega arith) q l.invariant.1)

pub returns : goal.returns
returns c =
    let l = c.loop-i in
    let all = length-powers c.requires.day_table_inside c.args.f in
    all-stored l.i _ _ (omega arith) (omega arith) l.invariant.1
