-- At most eight agree for each row that is compared.
use Rattle.std.proofs.Common.{◌≤◌, ◌*◌, length}
use Rattle.test_paper_rows.proofs.compare.Given as goal

abbrev pub invariant-loop-row : goal.invariant-loop-row
invariant-loop-row l =
    (goal.iterator-loop-row).can_next l.row-iterator ×
    (goal.iterator-loop-row).is_finite l.row-iterator ×
    (l.agree ≤ 8 * length l.yielded)
