-- `list_holidays` meets its contract: after question 16 the list has as many entries as there are dates.
use native.Mathlib.Omega.{arith}
use lib.ListN.{length-take}
use Rattle.call_holidays.proofs.Questions.{list_passed}
use Rattle.call_holidays.proofs.list_holidays.Goals as goal

pub slice_bounds-copy_from_slice-end-2 : goal.slice_bounds-copy_from_slice-end-2
slice_bounds-copy_from_slice-end-2 c = grind (arith, length-take, list_passed)

pub copy_from_slice-requires : goal.copy_from_slice-requires
copy_from_slice-requires c = grind (arith, length-take, list_passed)
