-- At most one day agrees for each that is compared, and no year adds more than 366 days.
use Prim.Native.Nat.{◌+◌, ◌*◌, ◌≤◌, ◌<◌}
use Rattle.test_calendar.proofs.compare_span.Given as goal

abbrev pub invariant-loop-year : goal.invariant-loop-year
invariant-loop-year l = (l.agree ≤ l.days) × (l.days + 366 * 1996 ≤ 366 * l.year)

abbrev pub invariant-loop-t : goal.invariant-loop-t
invariant-loop-t l = (l.agree ≤ l.days) × (l.days + 366 * 1996 + 1 ≤ 366 * l.year + l.t) × (l.year < 2100)
