-- Writing's question 5, asked of the lent values, is that of the file to be written. Assumes nothing.
use mathlib.Core.Path.{◌≡◌, refl, sym, ◌∙◌, ap}
use mathlib.Core.List.{List, [], ◌∷◌, ◌++◌}
use Prim.Native.Nat.{ℕ, zero, suc, ◌+◌, ◌*◌, ◌≤◌, ◌<◌, max}
use native.Mathlib.Omega.{arith}
use lib.Dec.{leb}
use lib.ListN.{length, take, drop, get_or, length-append, length-drop}
use lib.Seq.{drop-drop, length-take-le}
use borrow.Author.Tests.{le-leb}
use Rattle.std.specs.Borrow.{Bor}
use Rattle.std.specs.List.{fold}
use Rattle.std.specs.declared.iter.Enumerate.{Enumerate}
use Rattle.std.specs.Iterator.Adapters.{enumerate_source, enumerate_count, enumerate_steps}
use Rattle.std.specs.declared.slice.ChunksExact.{ChunksExact}
use Rattle.std.specs.Slice.Iter.{chunks_exact_size, chunks_exact_rest, chunks_exact_steps}
use Rattle.std.proofs.Common.{Some, None}
use Rattle.std.proofs.lemmas.List.{take_at, drop_at}
use Rattle.std.proofs.Math.Nat.{le-max_left, le-max_right}
use Rattle.lists.proofs.Strides.{get_or-places}
use Rattle.big_endian.specs.BigEndian.{word_at, words_from, bytes_of}
use Rattle.refusal.specs.declared.Refusal.TheVariants.{BadValue}
use Rattle.refusal.specs.Questions.{Verdict}
use Rattle.refusal.specs.Questions.{Pass, ask, ask_each}
use Rattle.refusal.proofs.Questions.{ask-yes, each-pass}
use Rattle.file_layout.specs.Header.{layout_of}
use Rattle.file_values.specs.Values.{value_question, profile_values_question, values_question}
use Rattle.file_written.specs.Written.{written}
use Rattle.file_written.proofs.Written.{table_at}

-- question 5 of value i of a profile
pub value-asked : (file values : List ℕ) (at : ℕ) → words_from file (length values) at ≡ values → (i : ℕ) → i < length values →
    ask (leb (get_or values i 0) 20_000) (BadValue (at + i * 2)) ≡ value_question file (at + i * 2)
unfolding value_question
value-asked file values at stand i h =
    let own : get_or values i 0 ≡ word_at file (at + i * 2) =
    ap (λ (l : List ℕ). get_or l i 0) (sym stand) ∙ get_or-places (word_at file) 2 (length values) at i 0 h
    in
    rw own

-- no value is above the highest
highest-before : (values : List ℕ) (highest : ℕ) → highest ≤ fold max highest values
highest-before [] highest = omega arith
highest-before (value ∷ values) highest = omega (arith, highest-before values (max highest value), le-max_left highest value)

highest-each : (values : List ℕ) (highest i : ℕ) → i < length values → get_or values i 0 ≤ fold max highest values
highest-each [] highest i h = absurd (omega arith)
highest-each (value ∷ values) highest zero h = omega (arith, highest-before values (max highest value), le-max_right highest value)
highest-each (value ∷ values) highest (suc i) h = highest-each values (max highest value) i (omega arith)

-- so every value of a profile passes where the highest does
pub highest-pass : (file values : List ℕ) (at : ℕ) → words_from file (length values) at ≡ values → fold max 0 values ≤ 20_000 →
    Pass ≡ ask_each (value_question file) 2 (length values) at
highest-pass file values at stand low =
    sym
    (each-pass (value_question file) 2 (length values) at
    (λ i h.
    sym (value-asked file values at stand i h)
    ∙ ask-yes (BadValue (at + i * 2)) (le-leb (get_or values i 0) 20_000 (omega (arith, highest-each values 0 i h)))))

-- the reader's question 5 of the file to be written, of the profile at one offset
abbrev pub file_values : List ℕ → List ℕ → ℕ → Verdict
file_values codes values at = profile_values_question (layout_of (written codes values)) (written codes values) at

-- it is asked of as many profiles as there are codes
pub values-each : (codes values : List ℕ) →
    ask_each (file_values codes values) 1729 (length codes) 6 ≡ values_question (layout_of (written codes values)) (written codes values)
unfolding layout_of written bytes_of
values-each codes values = refl

-- question 5 of the part of the values that is profile k's
pub part-asked : (codes values : List ℕ) → length values ≡ length codes * 864 → (k : ℕ) → k < length codes → {v : Verdict} (part : List ℕ) →
    part ≡ take 864 (drop (k * 864) values) →
    ((file : List ℕ) → words_from file (length part) (6 + k * 1729 + 1) ≡ part → v ≡ ask_each (value_question file) 2 (length part) (6 + k * 1729 + 1)) →
    v ≡ file_values codes values (6 + k * 1729)
unfolding profile_values_question layout_of
part-asked codes values each k h part is told =
    let full : length part ≡ 864 = ap length is ∙ length-take-le 864 (drop (k * 864) values) (simp length-drop (omega arith)) in
    let stand : words_from (written codes values) 864 (6 + k * 1729 + 1) ≡ part = rw is (table_at codes values each k h) in
    (rw full at told) (written codes values) stand

-- A loop over the parts of 864 values has come to the part that it counts: those from there on are left.
pub record PartsLeft (values : List ℕ) (parts : Enumerate (ChunksExact ℕ)) : Type 0 where
  pub size : chunks_exact_size (enumerate_source parts) ≡ 864
  pub rest : chunks_exact_rest (enumerate_source parts) ≡ drop (enumerate_count parts * 864) values
  pub within : enumerate_count parts * 864 ≤ length values

-- it gives part k, and goes on to those behind it
pub record PartGiven (values : List ℕ) (next : Enumerate (ChunksExact ℕ)) (k : ℕ) (part : List ℕ) : Type 0 where
  pub own : part ≡ take 864 (drop (k * 864) values)
  pub inside : (k + 1) * 864 ≤ length values
  pub counted : enumerate_count next ≡ k + 1
  pub left : PartsLeft values next

module _ {values : List ℕ} {parts next : Enumerate (ChunksExact ℕ)} (left : PartsLeft values parts) where
  pub part_given : (k : ℕ) (part : Bor (List ℕ)) → enumerate_steps chunks_exact_steps parts (Some (k, part)) next →
      (k ≡ enumerate_count parts) × PartGiven values next k part.now
  part_given k part step =
      let rest = chunks_exact_rest (enumerate_source next) in
      let long : length part.now ≡ 864 = step.0.1.1 ∙ left.size in
      let all : drop (k * 864) values ≡ part.now ++ rest = rw step.1 (sym left.rest ∙ step.0.1.0) in
      let count : length (drop (k * 864) values) ≡ 864 + length rest = ap length all ∙ rw (← long) (length-append part.now rest) in
      let inside : (k + 1) * 864 ≤ length values = omega (arith, count, length-drop (k * 864) values, left.within, step.1) in
      let next_count : enumerate_count next ≡ k + 1 = omega (arith, step.1, step.2) in
      let behind : (k + 1) * 864 ≡ k * 864 + 864 = omega arith in (
        step.1,
        record {
          own = sym (rw all (take_at part.now rest 864 long));
          inside = inside;
          counted = next_count;
          left = record {
            size = step.0.0 ∙ left.size;
            rest = rw (next_count, behind, ← drop-drop 864 (k * 864) values, all) (sym (drop_at part.now rest 864 long));
            within = rw next_count inside;
          };
        },
      )

  -- it gives no more where fewer than 864 values are left
  pub parts_end : enumerate_steps chunks_exact_steps parts None next → length values < (enumerate_count parts + 1) * 864
  parts_end step = omega (arith, ap length left.rest, length-drop (enumerate_count parts * 864) values, left.size, step.0.1.0)
