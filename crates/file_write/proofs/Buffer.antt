-- The bytes of values, of profiles and of the file, one behind the other, as loops store them. Assumes nothing.
use mathlib.Core.Path.{◌≡◌, refl, ap, ◌∙◌}
use mathlib.Core.List.{List, [], ◌∷◌, ◌++◌}
use Prim.Native.Nat.{ℕ, ◌+◌, ◌*◌, ◌≤◌, ◌<◌}
use native.Mathlib.Omega.{arith}
use lib.ListN.{length, drop, get_or, length-append, drop_of_length-le}
use lib.Seq.{sets}
use Rattle.std.specs.Borrow.{Bor}
use Rattle.std.specs.declared.iter.Enumerate.{Enumerate}
use Rattle.std.specs.declared.iter.Zip.{Zip}
use Rattle.std.specs.declared.slice.Iter.{Iter}
use Rattle.std.specs.declared.slice.ChunksExact.{ChunksExact}
use Rattle.std.specs.Iterator.Adapters.{enumerate_source, enumerate_count, enumerate_steps, zip_first, zip_second, zip_steps}
use Rattle.std.specs.Slice.Iter.{iter_rest, iter_steps, chunks_exact_size, chunks_exact_rest, chunks_exact_steps}
use Rattle.std.proofs.Common.{Some, None}
use Rattle.std.proofs.lemmas.List.{take_at, drop_at}
use mathlib.Core.Logic.{◌⊎◌, inl, inr}
use Rattle.lists.proofs.Stores.{stored-first}
use Rattle.lists.proofs.Parts.{drop-next}
use Rattle.big_endian.specs.BigEndian.{bytes_of}
use Rattle.file_layout.specs.Header.{mark}
use Rattle.file_written.specs.Written.{profiles_of, written}
use Rattle.file_written.proofs.Written.{length-bytes}

-- the bytes of value i and of those behind it, and of none
pub values-next : (values : List ℕ) (i : ℕ) → i < length values →
    bytes_of (drop i values) ≡ bytes_of (get_or values i 0 ∷ []) ++ bytes_of (drop (i + 1) values)
unfolding bytes_of
values-next values i h = rw (drop-next values i h)

pub values-done : (values : List ℕ) (i : ℕ) → length values ≤ i → bytes_of (drop i values) ≡ []
unfolding bytes_of
values-done values i h = rw (drop_of_length-le values h)

-- A loop over the codes and the parts of 864 values beside each other.
abbrev pub Pairs : Type 0
Pairs = Enumerate (Zip (Iter ℕ) (ChunksExact ℕ))

-- what is left of both
abbrev pub codes_left : Pairs → List ℕ
codes_left pairs = iter_rest (zip_first (enumerate_source pairs))

abbrev pub values_left : Pairs → List ℕ
values_left pairs = chunks_exact_rest (zip_second (enumerate_source pairs))

-- of n codes some are left, and a part of 864 values for each of them
pub record Paired (n : ℕ) (pairs : Pairs) : Type 0 where
  pub total : enumerate_count pairs + length (codes_left pairs) ≡ n
  pub size : chunks_exact_size (zip_second (enumerate_source pairs)) ≡ 864
  pub each : length (values_left pairs) ≡ length (codes_left pairs) * 864

-- it gives the next code and the next part, whose profile comes before those that are left then
pub record PairGiven (n : ℕ) (pairs next : Pairs) (i code : ℕ) (part : List ℕ) : Type 0 where
  pub below : i < n
  pub counted : i ≡ enumerate_count pairs
  pub next_counted : enumerate_count next ≡ i + 1
  pub full : length (bytes_of part) ≡ 1728
  pub profile : profiles_of 864 (codes_left pairs) (values_left pairs) ≡ code ∷ (bytes_of part ++ profiles_of 864 (codes_left next) (values_left next))
  pub paired : Paired n next

none-left : (codes values : List ℕ) → length codes ≡ 0 → profiles_of 864 codes values ≡ []
unfolding profiles_of
none-left [] values e = refl
none-left (code ∷ codes) values e = absurd (omega arith)

module _ {n : ℕ} {pairs : Pairs} (next : Pairs) (loop : Paired n pairs) where
  pub pair_given : (i : ℕ) (code : Bor ℕ) (part : Bor (List ℕ)) → enumerate_steps (zip_steps iter_steps chunks_exact_steps) pairs (Some (i, (code, part))) next →
      PairGiven n pairs next i code.now part.now
  unfolding profiles_of
  pair_given i code part step =
      let rest = values_left next in
      let codes : codes_left pairs ≡ code.now ∷ codes_left next = step.0.0 in
      let values : values_left pairs ≡ part.now ++ rest = step.0.1.1.0 in
      let own : length part.now ≡ 864 = step.0.1.1.1 ∙ loop.size in
      record {
        below = omega (arith, step.1, loop.total, ap length codes);
        counted = step.1;
        next_counted = omega (arith, step.1, step.2);
        full = omega (arith, length-bytes part.now);
        profile = rw (codes, values, take_at part.now rest 864 own, drop_at part.now rest 864 own);
        paired = record {
          total = omega (arith, step.1, step.2, loop.total, ap length codes);
          size = step.0.1.0 ∙ loop.size;
          each = omega (arith, loop.each, ap length codes, ap length values, length-append part.now rest);
        };
      }

  -- it ends where no code is left
  pub pairs-end : enumerate_steps (zip_steps iter_steps chunks_exact_steps) pairs None next → profiles_of 864 (codes_left pairs) (values_left pairs) ≡ []
  pairs-end step = none-left (codes_left pairs) (values_left pairs) (ended step.0)
    where
      ended : ((u : Iter ℕ) × iter_steps (zip_first (enumerate_source pairs)) None u) ⊎ ((u : ChunksExact ℕ) × chunks_exact_steps (zip_second (enumerate_source pairs)) None u) → length (codes_left pairs) ≡ 0
      ended (inl e) = e.1.0
      ended (inr e) = omega (arith, e.1.1.0, loop.size, loop.each)

-- the header's stores and then the profiles' are the file's
pub file-stored : (codes values buffer : List ℕ) {headed after : List ℕ} → length (written codes values) ≤ length buffer →
    headed ≡ sets buffer 0 (mark ++ (bytes_of (1 ∷ []) ++ (length codes ∷ []))) →
    after ≡ sets headed 6 (profiles_of 864 codes values) →
    after ≡ written codes values ++ drop (length (written codes values)) buffer
unfolding written bytes_of
file-stored codes values buffer room eh ea = ea ∙ rw eh (stored-first (written codes values) buffer refl room)
