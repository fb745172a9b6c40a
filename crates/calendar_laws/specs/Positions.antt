-- A day has as many values as positions after the clock change.
use Rattle.std.specs.Prelude.{◌≡◌, List, length}
use Rattle.calendar_days.specs.declared.Clock.{Clock}
use Rattle.calendar_days.specs.Days.{positions, value_count_under}

-- the counts are those of the positions. Proved in proofs/Positions.antt.
unfoldable pub CountedPositions : Type 1
CountedPositions =
    (A : Type 0) (c : Clock) (day : List A) → length day ≡ 96 → length (positions c day) ≡ value_count_under c
