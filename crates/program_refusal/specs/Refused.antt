-- Document 01, "The program": the line that it prints for a refusal.
use Rattle.std.specs.Prelude.{List, [], ◌∷◌, ◌++◌, ℕ}
use Rattle.refusal.specs.declared.Refusal.{Refusal}
use Rattle.refusal.specs.Questions.{refusal_number, refusal_place}
use Rattle.text.specs.Text.{line_feed}
use Rattle.text_fields.specs.Fields.{field}

-- "refused" in ASCII
abbrev pub refused_word : List ℕ
refused_word = 114 ∷ 101 ∷ 102 ∷ 117 ∷ 115 ∷ 101 ∷ 100 ∷ []

-- "A refusal prints "refused", number, place."
unfoldable pub refused_line : Refusal → List ℕ
refused_line r = refused_word ++ (field (refusal_number r) ++ (field (refusal_place r) ++ (line_feed ∷ [])))
