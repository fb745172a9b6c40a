-- Document 01, "The profile file": what comparing answers, accepted and refused. The theorems are proved in proofs/Same.antt.
use Rattle.std.specs.Prelude.{Result, Ok, Err, ◌≡◌, Bool, true, false, cond, ◌&&◌, List, [], ◌∷◌, ℕ, eqb}
use Rattle.refusal.specs.declared.Refusal.{Refusal}
use Rattle.refusal.specs.Questions.{Verdict, Pass, refusal_number, refusal_place, ◌then◌}
use Rattle.file_check.specs.Check.{file_check}
use Rattle.file_group.specs.Group.{group_question, table_of}
use Rattle.file_compare.specs.declared.Likeness.{Likeness}
use Rattle.file_compare.specs.declared.Likeness.TheVariants.{Alike, Different}
use Rattle.file_compare.specs.declared.ComparisonReport.{ComparisonReport}

-- whether two groups are alike, or the refusal
abbrev pub Comparison : Type 0
Comparison = Result Likeness Refusal

-- Comparing: questions 1 to 6, "with place 0 or 1 in question 6 for the first group missing"
abbrev pub compare_check : List ℕ → ℕ → ℕ → Verdict
compare_check file first second = file_check file then group_question file first 0 then group_question file second 1

abbrev pub same : List ℕ → List ℕ → Bool
same [] [] = true
same [] (b ∷ bs) = false
same (a ∷ rest) [] = false
same (a ∷ rest) (b ∷ bs) = eqb a b && same rest bs

-- "says alike exactly when all 864 values agree, also for a group with itself"
unfoldable pub comparison : List ℕ → ℕ → ℕ → Comparison
comparison file first second =
    compared (compare_check file first second) (same (table_of file first) (table_of file second))
  where
    compared : Verdict → Bool → Comparison
    compared (Ok _) alike = Ok (cond alike Alike Different)
    compared (Err r) alike = Err r

-- "exactly when all 864 values agree": lists that are the same are equal, and equal ones the same
unfoldable pub SameIsEqual : Type 0
SameIsEqual = (a b : List ℕ) → (same a b ≡ true → a ≡ b) × (a ≡ b → same a b ≡ true)

-- and so an accepted comparing answers alike exactly when the two groups have equal tables
unfoldable pub AlikeIsEqual : Type 0
AlikeIsEqual =
    (file : List ℕ) (first second : ℕ) → compare_check file first second ≡ Pass →
    (comparison file first second ≡ Ok Alike → table_of file first ≡ table_of file second)
    × (table_of file first ≡ table_of file second → comparison file first second ≡ Ok Alike)

-- the numbers for each case of the answer; 1 for alike is our choice
abbrev pub reported : Comparison → ComparisonReport
reported (Ok Alike) = record { number = 0; place = 0; alike = 1 }
reported (Ok Different) = record { number = 0; place = 0; alike = 0 }
reported (Err r) = record { number = refusal_number r; place = refusal_place r; alike = 0 }
