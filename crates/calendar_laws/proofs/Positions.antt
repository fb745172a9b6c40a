-- A day has as many values as positions after the clock change: 96, 92 or 100.
-- Assumes nothing.
use native.Mathlib.Omega.{arith}
use lib.ListN.{length-append, length-take, length-drop}
use Rattle.calendar_days.specs.declared.Clock.TheVariants.{Unchanged, Forward, Back}
use Rattle.calendar_days.specs.Days.{positions}
use Rattle.calendar_laws.specs.Positions.{CountedPositions}

pub counted-positions : CountedPositions
unfolding CountedPositions positions
counted-positions A Unchanged day h = h
counted-positions A Forward day h = simp (length-append, length-take, length-drop) (omega arith)
counted-positions A Back day h = simp (length-append, length-take, length-drop) (omega arith)
