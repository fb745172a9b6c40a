-- Laws of storing a list in lent memory, from a place on: stores as a contract says them, one list behind another, and loops that store
-- a list by turns. Assumes nothing.
use mathlib.Core.Path.{◌≡◌, refl, sym, ◌∙◌, ap}
use mathlib.Core.List.{List, [], ◌∷◌, ◌++◌, append_assoc}
use Prim.Native.Nat.{ℕ, suc, ◌+◌, ◌-◌, ◌≤◌}
use native.Mathlib.Nat.{zero-add, add-zero}
use native.Mathlib.Omega.{arith}
use lib.ListN.{length, take, drop, set, length-append, length-drop}
use borrow.Rule.Slice.PartMut.{put_mid}
use Rattle.std.proofs.lemmas.List.{take_at, drop_at, drop-drop, take_all, drop_all, append-nil}
use lib.Seq.{sets, sets-eq, set_comm, length-sets}

module _ {A : Type 0} where
  -- where there is room: the old content, the n entries of the list, and the old content beyond them
  pub stored : (list memory : List A) (at : ℕ) {n : ℕ} → length list ≡ n → at + n ≤ length memory →
      sets memory at list ≡ take at memory ++ (list ++ drop (at + n) memory)
  stored list memory at e room =
      rw (← e) (sets-eq list memory at (rw e room) ∙ append_assoc (take at memory) list (drop (at + length list) memory))

  pub stored-first : (list memory : List A) {n : ℕ} → length list ≡ n → n ≤ length memory → sets memory 0 list ≡ list ++ drop n memory
  stored-first list memory {n} e room = rw (zero-add n) at (stored list memory 0 e (omega arith))

  -- what a part of memory holds after it was written is a store of that list there
  pub part-stored : (memory part list : List A) (at n : ℕ) → part ≡ list → length list ≡ n → at + n ≤ length memory → put_mid at n memory part ≡ sets memory at list
  part-stored memory part list at n e size room =
      rw (e, drop-drop n at memory) (sym (stored list memory at size room))

  -- a list stored behind another, in the part of memory behind it
  pub stored-behind : (first second before : List A) (n m : ℕ) {middle part : List A} → length first ≡ n → length second ≡ m → n + m ≤ length before →
      middle ≡ first ++ drop n before → part ≡ second ++ drop m (take (length middle - n) (drop n middle)) →
      put_mid n (length middle - n) middle part ≡ (first ++ second) ++ drop (n + m) before
  stored-behind first second before n m {middle} {part} e f room s p =
      let front : take n middle ≡ first = rw s (take_at first (drop n before) n e) in
      let rest : drop n middle ≡ drop n before = rw s (drop_at first (drop n before) n e) in
      let kept : length middle ≡ length before = rw s (omega (arith, length-append first (drop n before), length-drop n before)) in
      let all : take (length middle - n) (drop n middle) ≡ drop n before =
      rw rest (take_all (length middle - n) (drop n before) (omega (arith, length-drop n before))) in
      let none : drop (length middle - n) (drop n middle) ≡ [] =
      rw rest (drop_all (length middle - n) (drop n before) (omega (arith, length-drop n before))) in
      rw (p, front, all, none, drop-drop m n before, append-nil (second ++ drop (n + m) before), append_assoc first second (drop (n + m) before))

  -- stores of one list and then of another, behind it
  pub sets-append : (memory first second : List A) (at : ℕ) → sets memory at (first ++ second) ≡ sets (sets memory at first) (at + length first) second
  sets-append memory [] second at = rw (add-zero at)
  sets-append memory (x ∷ first) second at =
      let next : suc at + length first ≡ at + suc (length first) = omega arith in
      sets-append (set memory at x) first second (suc at) ∙ rw next

  -- a store behind a list's comes before or after them
  set-behind : (list memory : List A) (at there : ℕ) (x : A) → at + length list ≤ there → sets (set memory there x) at list ≡ set (sets memory at list) there x
  set-behind [] memory at there x h = refl
  set-behind (y ∷ list) memory at there x h =
      rw (set_comm memory there at x y (λ e. omega arith)) (set-behind list (set memory at y) (suc at) there x (omega arith))

-- A loop stores a list by turns: the stores of what is left, from `at` on, come to those of the whole.
pub record Storing {A : Type 0} (before : List A) (from : ℕ) (whole memory : List A) (at : ℕ) (left : List A) : Type 0 where
  pub comes : sets memory at left ≡ sets before from whole
  pub kept : length memory ≡ length before

pub nothing_stored : {A : Type 0} {before whole : List A} {from : ℕ} → Storing before from whole before from whole
nothing_stored = record { comes = refl; kept = refl }

module _ {A : Type 0} {before whole memory left : List A} {from at : ℕ} (loop : Storing before from whole memory at left) where
  -- the first of what is left
  pub some_stored : (some : List A) {rest after : List A} {there : ℕ} → left ≡ some ++ rest → after ≡ sets memory at some → there ≡ at + length some →
      Storing before from whole after there rest
  some_stored some {rest} e s n =
      record {
        comes = rw (s, n) (sym (sets-append memory some rest at)) ∙ rw e at loop.comes;
        kept = ap length s ∙ length-sets memory at some ∙ loop.kept;
      }

  pub one-stored : {x : A} {rest : List A} {there : ℕ} → left ≡ x ∷ rest → there ≡ at + 1 → Storing before from whole (set memory at x) there rest
  one-stored {x} e n = some_stored (x ∷ []) e refl n

  -- the last of what is left
  pub last_stored : (x : A) {rest : List A} {there : ℕ} → left ≡ rest ++ (x ∷ []) → there ≡ at + length rest →
      Storing before from whole (set memory there x) at rest
  last_stored x {rest} {there} e n =
      record {
        comes = set-behind rest memory at there x (omega arith) ∙ rw n (sym (sets-append memory rest (x ∷ []) at)) ∙ rw e at loop.comes;
        kept = length-sets memory there (x ∷ []) ∙ loop.kept;
      }

  -- nothing is left
  pub all-stored : left ≡ [] → memory ≡ sets before from whole
  all-stored e = rw e at loop.comes
