-- `Each` goes with a list's parts: what every member of a list has, those of its parts have too. By induction over the list. Assumes
-- nothing.
use mathlib.Core.List.{List, [], ◌∷◌, ◌++◌, map}
use Prim.Native.Nat.{ℕ, zero, suc}
use lib.ListN.{take, drop}
use Rattle.lists.specs.Lists.{Each}

module _ {A : Type 0} (property : A → Type 0) where
  pub each_map : {B : Type 0} (f : B → A) (xs : List B) → ((x : B) → property (f x)) → Each property (map f xs)
  each_map f [] h = tt
  each_map f (x ∷ xs) h = (h x, each_map f xs h)

  pub each_append : (first second : List A) → Each property first → Each property second → Each property (first ++ second)
  each_append [] second a b = b
  each_append (q ∷ first) second a b = (a.0, each_append first second a.1 b)

  pub each_take : (n : ℕ) (run : List A) → Each property run → Each property (take n run)
  each_take zero run a = tt
  each_take (suc n) [] a = tt
  each_take (suc n) (q ∷ run) a = (a.0, each_take n run a.1)

  pub each-drop : (n : ℕ) (run : List A) → Each property run → Each property (drop n run)
  each-drop zero run a = a
  each-drop (suc n) [] a = tt
  each-drop (suc n) (q ∷ run) a = each-drop n run a.1
