-- `carry_quotients::carry_by_quotients` meets its contract: a range's figures are the growths of a quotient by 40,000
-- (proofs/Figures.antt).
use Rattle.std.proofs.Common.{refl}
use Rattle.carry_quotients.proofs.Figures.{carried}
use Rattle.carry_quotients.proofs.carry_by_quotients.Goals as goal

pub returns : goal.returns
returns c =
    carried c.requires.small_powers c.requires.in_day c.store_growths-sum.ensures.sum c.store_growths-sum.ensures.growths refl refl
