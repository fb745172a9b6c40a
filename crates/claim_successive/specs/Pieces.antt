-- A piece of an accepted period passes, for any check that asks the period between other questions.
use Rattle.std.specs.Prelude.{◌≡◌, ℕ, ◌+◌, ◌<◌}
use Rattle.refusal.specs.Questions.{Verdict}
use Rattle.refusal.specs.Questions.{Pass}
use Rattle.refusal.specs.Questions.{◌then◌}
use Rattle.calendar_dates.specs.Dates.{date_of, days_later}
use Rattle.calendar_period.specs.Period.{days_of, period_check}

-- "one or more successive days" of the period from `first` to `last`: 1 + more of them, after the first `before`
pub record PieceOfPeriod (first last from to : ℕ) : Type 0 where
  pub before : ℕ
  pub more : ℕ
  pub inside : before + more < days_of (date_of first) (date_of last)
  pub begins : date_of from ≡ days_later before (date_of first)
  pub ends : date_of to ≡ days_later (before + more) (date_of first)

-- The theorem, of a check that asks some questions ahead of the period and some behind it: where the whole passed, a piece with the
-- same questions ahead of it passes once its own questions behind do. Proved in proofs/Pieces.antt.
unfoldable pub PiecesPass : Type 0
PiecesPass =
    (ahead behind own : Verdict) (first last from to : ℕ) →
    (ahead then period_check first last then behind) ≡ Pass →
    PieceOfPeriod first last from to →
    own ≡ Pass →
    (ahead then period_check from to then own) ≡ Pass
