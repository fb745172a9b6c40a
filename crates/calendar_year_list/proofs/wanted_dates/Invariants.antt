-- What each turn of the loop keeps: with the days left behind them, the dates so far come to the whole, and there is room for them.
use mathlib.Core.Path.{◌≡◌}
use mathlib.Core.List.{[]}
use Prim.Native.Nat.{◌-◌, ◌≤◌}
use lib.ListN.{length, drop}
use Rattle.std.specs.Prelude.{slice_get}
use Rattle.calendar_year_list.specs.Inside.{wanted}
use Rattle.calendar_year_list.proofs.Gathering.{appended}
use Rattle.calendar_year_list.proofs.wanted_dates.Given as goal

abbrev pub invariant-loop-day : goal.invariant-loop-day
invariant-loop-day l = record {
  whole : appended l.dates.items (wanted (drop l.day-index l.days)) ≡ appended [] (wanted l.days);
  room : length l.dates.items ≤ l.day-index;
  last : l.last ≡ slice_get l.dates.items (length l.dates.items - 1);
}
