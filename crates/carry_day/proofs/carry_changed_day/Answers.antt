-- `carry_day::carry_changed_day` meets its contract: its two ranges, joined, are the day after the clock change (proofs/TwoRanges.antt).
use Rattle.carry_day.proofs.TwoRanges.{second-range, day}
use Rattle.carry_day.proofs.carry_changed_day.Goals as goal

pub carry_range-after-requires-clause-small_powers : goal.carry_range-after-requires-clause-small_powers
carry_range-after-requires-clause-small_powers c = second-range _ _ _ _ c.ranges_of.ensures.joined c.requires.small_powers c.carry_range-before.ensures

pub returns : goal.returns
returns c =
    day _ _ _ _ c.ranges_of.ensures.joined c.ranges_of.ensures.count c.requires.room c.carry_range-before.ensures c.carry_range-after.ensures
