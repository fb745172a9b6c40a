-- Lists are the same exactly when they are equal, by induction over both, and so the answer is alike exactly when the tables are
-- equal. Assumes nothing.
use mathlib.Core.Path.{◌≡◌, refl, ap}
use mathlib.Core.Bool.{Bool, true, false, cond}
use mathlib.Core.List.{List, [], ◌∷◌}
use Prim.Native.Nat.{ℕ}
use lib.Dec.{eqb}
use borrow.Author.Tests.{eqb-true, eq-eqb}
use Rattle.std.specs.Prelude.{Ok}
use Rattle.refusal.proofs.Questions.{both}
use Rattle.file_group.specs.Group.{table_of}
use Rattle.file_compare.specs.declared.Likeness.TheVariants.{Alike, Different}
use Rattle.file_compare.specs.Comparing.{Comparison, same, comparison, SameIsEqual, AlikeIsEqual}

pub same-equal : (a b : List ℕ) → same a b ≡ true → a ≡ b
same-equal [] [] h = refl
same-equal [] (y ∷ b) h = cc
same-equal (x ∷ a) [] h = cc
same-equal (x ∷ a) (y ∷ b) h =
    let parts = both (eqb x y) (same a b) h in
    rw (eqb-true x y parts.0) (ap (λ (l : List ℕ). y ∷ l) (same-equal a b parts.1))

pub same-itself : (a : List ℕ) → same a a ≡ true
same-itself [] = refl
same-itself (x ∷ a) = rw (eq-eqb x x refl) (same-itself a)

pub same-is-equal : SameIsEqual
unfolding SameIsEqual
same-is-equal a b = (same-equal a b, λ e. rw e (same-itself b))

-- the answer is alike exactly when the values are the same
said-alike : (alike : Bool) → ◌≡◌ {A = Comparison} (Ok (cond alike Alike Different)) (Ok Alike) → alike ≡ true
said-alike true h = refl
said-alike false h = cc

pub alike-is-equal : AlikeIsEqual
unfolding AlikeIsEqual SameIsEqual comparison
alike-is-equal file first second pass =
    let equal = same-is-equal (table_of file first) (table_of file second) in
    (λ h. equal.0 (said-alike (same (table_of file first) (table_of file second)) (rw pass at h)), λ e. rw (pass, equal.1 e))
