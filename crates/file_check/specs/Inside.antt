-- Question 4 of codes one after the other, each with the one before it. No definition of document 01.
use Rattle.std.specs.Prelude.{Bool, true, Option, Some, None, List, [], ◌∷◌, ℕ, ◌+◌, ◌&&◌, leb, ltb}
use Rattle.refusal.specs.declared.Refusal.TheVariants.{BadCode}
use Rattle.refusal.specs.Questions.{Verdict, Pass, ask, ◌then◌}

-- a code is above the one before it, where there is one
abbrev pub is_above : Option ℕ → ℕ → Bool
is_above None code = true
is_above (Some before) code = ltb before code

-- the codes stand `apart` bytes from one another, the first one at `at`; `before` is the code in front of it, where there is one
unfoldable pub codes_asked : ℕ → Option ℕ → ℕ → List ℕ → Verdict
codes_asked apart before at [] = Pass
codes_asked apart before at (code ∷ codes) =
    ask (leb code 10 && is_above before code) (BadCode at) then codes_asked apart (Some code) (at + apart) codes
