-- What `powers_of` asks of a group's values, and what it makes of them. No definition of document 01.
use Rattle.std.specs.Prelude.{List, map, ℕ, ◌+◌, ◌*◌, ◌≤◌, length, get_or}
use Rattle.dynamisation.specs.Dynamisation.{Q}

-- what is asked of a group's values: the day table lies inside, and no value is above 20,000
pub record DayTableInside (index : ℕ) (values : List ℕ) : Type 0 where
  pub inside : (index + 1) * 96 ≤ length values
  pub small : (i : ℕ) → get_or values i 0 ≤ 20_000

-- "Power Q" of each of a day's values, for one factor F
abbrev pub powers_by : ℕ → List ℕ → List ℕ
powers_by f values = map (λ p. Q p f) values
