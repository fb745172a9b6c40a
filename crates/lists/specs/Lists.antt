-- Lists: their sum, a property of every member, lists made of what stands at places one stride apart, and strictly rising lists.
use Rattle.std.specs.Prelude.{List, [], ◌∷◌, ℕ, zero, suc, ◌+◌, ◌<◌}

-- "the total in Wh (the sum of the figures)"
unfoldable pub sum : List ℕ → ℕ
sum [] = 0
sum (x ∷ xs) = x + sum xs

-- every member of a list has a property
abbrev pub Each : {A : Type 0} → (A → Type 0) → List A → Type 0
Each property [] = Unit {0}
Each property (x ∷ xs) = property x × Each property xs

-- f at n places: at `at`, `at + step`, `at + step + step` and so on
unfoldable pub each_from : {A : Type 0} → (ℕ → A) → ℕ → ℕ → ℕ → List A
each_from f step zero at = []
each_from f step (suc n) at = f at ∷ each_from f step n (at + step)

-- a number below a list's first one, where the list has one
abbrev pub Before : ℕ → List ℕ → Type 0
Before x [] = Unit {0}
Before x (first ∷ xs) = x < first

-- each number is above the one before it
abbrev pub Rising : List ℕ → Type 0
Rising [] = Unit {0}
Rising (x ∷ xs) = Before x xs × Rising xs
