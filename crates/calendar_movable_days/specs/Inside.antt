-- What the functions ask of the year and the day that they are given. No definitions of document 02.
use Rattle.std.specs.Prelude.{ℕ, ◌≤◌}

-- the years of the span
pub record InSpan (year : ℕ) : Type 0 where
  pub from : 1996 ≤ year
  pub to : year ≤ 2099

-- the days of March that are counted on to the end of June
pub record UpToJune (day : ℕ) : Type 0 where
  pub from : 1 ≤ day
  pub to : day ≤ 122
