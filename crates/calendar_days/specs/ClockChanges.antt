-- Document 01, "The last Sunday of March loses positions 8 to 11" and "The last Sunday of October repeats positions 8 to 11 directly
-- after position 11": the order that `positions` gives, of a day whose positions are numbered. Proved in proofs/ClockChanges.antt.
use Rattle.std.specs.Prelude.{◌≡◌, List, ◌∷◌, ◌++◌, ℕ}
use Rattle.lists.specs.Lists.{each_from}
use Rattle.calendar_days.specs.declared.Clock.TheVariants.{Forward, Back}
use Rattle.calendar_days.specs.Days.{positions}

-- n positions from one on
abbrev pub numbered : ℕ → ℕ → List ℕ
numbered from n = each_from (λ position. position) 1 n from

pub record ClockChanges : Type 0 where
  pub march_order : positions Forward (numbered 0 96) ≡ numbered 0 8 ++ numbered 12 84
  pub october_order : positions Back (numbered 0 96) ≡ numbered 0 12 ++ (8 ∷ 9 ∷ 10 ∷ 11 ∷ numbered 12 84)
