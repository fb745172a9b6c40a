-- What the functions over a polynomial require. No definition of documents 01 and 02.
use Rattle.std.specs.Prelude.{ℕ, ◌≤◌}

-- a day of the year
abbrev pub Day : ℕ → Type 0
Day t = (1 ≤ t) × (t ≤ 366)
