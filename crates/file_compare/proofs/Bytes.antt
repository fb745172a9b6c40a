-- The bytes of two parts agree exactly where their values do. Assumes nothing.
use Rattle.std.proofs.Common.{◌≡◌, ◌∙◌, refl, sym, ap, ℕ, ◌+◌, ◌*◌, ◌/◌, ◌%◌, ◌<◌, Bool, true, false, cond, List, length, take, drop, get_or, eqb, arith, Ok}
use Rattle.std.proofs.lemmas.Grind.{same_number_lists}
use Rattle.std.specs.Cmp.Lexicographic.{pointwise, same_text, other_text}
use native.Mathlib.Nat.{zero-add}
use lib.Seq.{get_or-drop}
use borrow.Author.Tests.{eqb-true, eqb-false}
use Rattle.lists.proofs.Parts.{take-small}
use Rattle.lists.proofs.Strides.{get_or-places}
use Rattle.big_endian.specs.BigEndian.{byte_at, word_at}
use Rattle.big_endian.specs.Inside.{words_of}
use Rattle.refusal.specs.Questions.{answered, Pass}
use Rattle.refusal.proofs.Questions.{then-pass}
use Rattle.file_layout.specs.Header.{layout_of}
use Rattle.file_layout.specs.Inside.{value_bytes}
use Rattle.file_check.specs.Check.{file_check}
use Rattle.file_group.specs.Group.{group_offset, group_question}
use Rattle.file_group.proofs.Group.{FoundAt, found_at, found-besides, part_length, part-words}
use Rattle.file_compare.specs.declared.Likeness.TheVariants.{Alike, Different}
use Rattle.file_compare.specs.Comparing.{Comparison, compare_check, same, comparison}
use Rattle.file_compare.proofs.Same.{same-equal, same-itself}

abbrev Bytes : List ℕ → Type 0
Bytes part = (i : ℕ) → byte_at part i < 256

bytes-of-part : (file : List ℕ) (start size : ℕ) → Bytes file → Bytes (take size (drop start file))
bytes-of-part file start size bytes i =
    omega (arith, take-small size 255 (drop start file) (λ j. rw get_or-drop (omega (arith, bytes (start + j)))) i)

value-of : (part : List ℕ) (k : ℕ) → k < length part / 2 → get_or (words_of part) k 0 ≡ word_at part (k * 2)
value-of part k h =
    let value = get_or-places (word_at part) 2 (length part / 2) 0 k 0 h in
    rw (zero-add (k * 2)) at value

same-bytes : (a b : List ℕ) → a ≡ b → true ≡ same (words_of a) (words_of b)
same-bytes a b e = rw e (sym (same-itself (words_of b)))

module _ (a b : List ℕ) (bytes-a : Bytes a) (bytes-b : Bytes b) (n : ℕ) (long-a : length a ≡ n * 2) (long-b : length b ≡ n * 2) where
  bytes-same : words_of a ≡ words_of b → a ≡ b
  bytes-same e =
      same_number_lists a b (omega arith)
      (λ i h.
      let k = i / 2 in
      let values : word_at a (k * 2) ≡ word_at b (k * 2) =
      sym (value-of a k (omega arith)) ∙ ap (λ (l : List ℕ). get_or l k 0) e ∙ value-of b k (omega arith)
      in
      let high : byte_at a (k * 2) ≡ byte_at b (k * 2) =
      omega (arith, values, bytes-a (k * 2), bytes-b (k * 2), bytes-a (k * 2 + 1), bytes-b (k * 2 + 1))
      in
      let low : byte_at a (k * 2 + 1) ≡ byte_at b (k * 2 + 1) = omega (arith, values, high) in
      at i (eqb (i % 2) 0) refl high low)
    where
      at : (i : ℕ) (even : Bool) → eqb (i % 2) 0 ≡ even → byte_at a (i / 2 * 2) ≡ byte_at b (i / 2 * 2) →
          byte_at a (i / 2 * 2 + 1) ≡ byte_at b (i / 2 * 2 + 1) → byte_at a i ≡ byte_at b i
      at i true t high low =
          let e : i / 2 * 2 ≡ i = omega (arith, eqb-true (i % 2) 0 t) in
          rw e at high
      at i false t high low =
          let e : i / 2 * 2 + 1 ≡ i = omega (arith, eqb-false (i % 2) 0 t) in
          rw e at low

  other-bytes : (a ≡ b → ⊥) → false ≡ same (words_of a) (words_of b)
  other-bytes never = go (same (words_of a) (words_of b)) refl
    where
      go : (alike : Bool) → same (words_of a) (words_of b) ≡ alike → false ≡ alike
      go true e = absurd (never (bytes-same (same-equal (words_of a) (words_of b) e)))
      go false e = refl

-- both groups were found, and so their tables are compared
module _ (file : List ℕ) (bytes : Bytes file) (first second : ℕ) {a b : ℕ} (passed : file_check file ≡ Pass)
    (one : Ok a ≡ answered (group_question file first 0) (group_offset file first))
    (other : Ok b ≡ answered (group_question file second 1) (group_offset file second)) where
  pass : compare_check file first second ≡ Pass
  pass =
      then-pass _ passed ∙ then-pass _ (found_at (group_question file first 0) one).0 ∙ (found_at (group_question file second 1) other).0

  one-found : FoundAt file first a
  one-found = found-besides file first 0 passed one

  other-found : FoundAt file second b
  other-found = found-besides file second 1 passed other

  compared : (alike : Bool) → alike ≡ same (words_of (value_bytes file a)) (words_of (value_bytes file b)) →
      ◌≡◌ {A = Comparison} (Ok (cond alike Alike Different)) (comparison file first second)
  unfolding comparison
  compared alike e = rw (pass, e, part-words file first one-found refl, part-words file second other-found refl)

  pub said-alike : true ≡ pointwise eqb (value_bytes file a) (value_bytes file b) → ◌≡◌ {A = Comparison} (Ok Alike) (comparison file first second)
  said-alike e = compared true (same-bytes (value_bytes file a) (value_bytes file b) (same_text _ _ e))

  pub said-different : false ≡ pointwise eqb (value_bytes file a) (value_bytes file b) → ◌≡◌ {A = Comparison} (Ok Different) (comparison file first second)
  said-different e =
      compared false
      (other-bytes (value_bytes file a) (value_bytes file b) (bytes-of-part file _ _ bytes) (bytes-of-part file _ _ bytes) (layout_of file).entries
      (part_length file first one-found refl)
      (part_length file second other-found refl)
      (other_text _ _ e))
