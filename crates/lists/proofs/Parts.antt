-- What goes with a list's parts: `map`, a limit of every member, and the first entry. By induction over the list. Assumes nothing.
use mathlib.Core.Path.{◌≡◌, refl, ap}
use mathlib.Core.List.{List, [], ◌∷◌, ◌++◌, map, map-append}
use Prim.Native.Nat.{ℕ, zero, suc, ◌+◌, ◌≤◌, ◌<◌}
use native.Mathlib.Numerals.{add-one}
use native.Mathlib.Omega.{arith}
use lib.ListN.{length, take, drop, get_or}
use lib.Seq.{drop-cons}

module _ {A B : Type 0} (f : A → B) where
  pub map-take : (n : ℕ) (xs : List A) → map f (take n xs) ≡ take n (map f xs)
  map-take zero xs = refl
  map-take (suc n) [] = refl
  map-take (suc n) (x ∷ xs) = ap (λ (rest : List B). f x ∷ rest) (map-take n xs)

  pub map-drop : (n : ℕ) (xs : List A) → map f (drop n xs) ≡ drop n (map f xs)
  map-drop zero xs = refl
  map-drop (suc n) [] = refl
  map-drop (suc n) (x ∷ xs) = map-drop n xs

  pub map-parts : (a b : ℕ) (xs : List A) → map f (take a xs ++ drop b xs) ≡ take a (map f xs) ++ drop b (map f xs)
  map-parts a b xs = rw (map-append f (take a xs) (drop b xs), map-take a xs, map-drop b xs)

-- no member of a part is above a limit where none of the list is
pub take-small : (n limit : ℕ) (xs : List ℕ) → ((i : ℕ) → get_or xs i 0 ≤ limit) → (i : ℕ) → get_or (take n xs) i 0 ≤ limit
take-small zero limit xs h i = omega arith
take-small (suc n) limit [] h i = omega arith
take-small (suc n) limit (x ∷ xs) h zero = h 0
take-small (suc n) limit (x ∷ xs) h (suc i) = take-small n limit xs (λ j. h (suc j)) i

-- what is left of a list from place i on begins with its entry i
pub drop-next : (xs : List ℕ) (i : ℕ) → i < length xs → drop i xs ≡ get_or xs i 0 ∷ drop (i + 1) xs
drop-next xs i h = rw (add-one i) (drop-cons xs i 0 h)
