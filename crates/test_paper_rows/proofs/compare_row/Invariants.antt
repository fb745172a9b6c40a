-- At most one agrees for each cell that is compared.
use Rattle.std.proofs.Common.{◌≤◌, length}
use Rattle.test_paper_rows.proofs.compare_row.Given as goal

abbrev pub invariant-loop-column : goal.invariant-loop-column
invariant-loop-column l =
    (goal.iterator-loop-column).can_next l.column-iterator ×
    (goal.iterator-loop-column).is_finite l.column-iterator ×
    (l.agree ≤ length l.yielded)
