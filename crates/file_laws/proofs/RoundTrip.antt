-- Demand 2's round trips. What was written is accepted, since its header is right and questions 4 and 5 are the reader's, and
-- each group is found at its own place. An accepted file is the header and, profile by profile, the bytes of its contents.
-- Assumes nothing.
use mathlib.Core.Path.{◌≡◌, refl, sym, ◌∙◌, ap}
use mathlib.Core.List.{List, ◌∷◌, ◌++◌}
use Prim.Native.Nat.{ℕ, zero, suc, ◌+◌, ◌*◌, ◌/◌, ◌%◌, ◌≤◌, ◌<◌}
use native.Mathlib.Omega.{arith}
use native.Mathlib.Nat.{zero-mul, suc-mul}
use native.Mathlib.Numerals.{add-one}
use lib.ListN.{length, drop, get_or, length-append, drop_of_length-le}
use lib.Seq.{drop-cons, take_at, drop_at, ext_get_or}
use borrow.Author.Tests.{le-leb, eq-eqb}
use Rattle.lists.specs.Lists.{each_from}
use Rattle.lists.proofs.Strides.{length-places, get_or-places}
use Rattle.big_endian.specs.BigEndian.{byte_at, word_at, words_from, bytes_of}
use Rattle.refusal.specs.declared.Refusal.TheVariants.{NoMark, WrongVersion, WrongLength}
use Rattle.refusal.specs.Questions.{Pass}
use Rattle.refusal.proofs.Questions.{ask-yes, then-pass, room-enough}
use Rattle.file_layout.specs.declared.Layout.{Layout}
use Rattle.file_layout.specs.Header.{layout_of, profile_length, mark_question, version_question, length_question, header_check}
use Rattle.file_check.specs.Check.{file_check}
use Rattle.file_check.proofs.Check.{Accepted, accepted}
use Rattle.file_group.specs.Group.{group_offset}
use Rattle.file_group.proofs.Group.{group-there}
use Rattle.file_written.specs.Written.{profiles_of, written}
use Rattle.file_written.proofs.Written.{length-written, code_at, table_at}
use Rattle.file_write_check.specs.WriteCheck.{write_check}
use Rattle.file_write_check.specs.Inside.{Amounts}
use Rattle.file_write_check.proofs.Passed.{amount-passes, Writable, writable}
use Rattle.file_laws.specs.RoundTrip.{Below, codes_from, values_from, codes_of, values_of, WrittenReadsBack, AcceptedIsRewritten}
use Rattle.file_laws.proofs.Codes.{finds}

-- ---- what was written reads back

count-written : (codes values : List ℕ) → byte_at (written codes values) 5 ≡ length codes
unfolding written bytes_of
count-written codes values = refl

module _ (codes values : List ℕ) (a : Amounts codes values) where
  mark-passes : mark_question (written codes values) ≡ Pass
  unfolding mark_question written bytes_of
  mark-passes = ask-yes NoMark (rw (le-leb 6 (length (written codes values)) (omega arith)))

  version-passes : version_question (written codes values) ≡ Pass
  unfolding version_question written bytes_of
  version-passes = ask-yes WrongVersion refl

  length-passes : length_question (layout_of (written codes values)) (written codes values) ≡ Pass
  unfolding length_question layout_of written bytes_of
  length-passes =
      ask-yes WrongLength
      (rw (le-leb 1 (length codes) a.some, le-leb (length codes) 11 a.most)
      (eq-eqb _ _ (length-written codes values a.each)))

  header-passes : header_check (written codes values) ≡ Pass
  unfolding header_check
  header-passes = then-pass _ mark-passes ∙ then-pass _ version-passes ∙ length-passes

module _ (codes values : List ℕ) (room : ℕ) (w : Writable codes values room) where
  file-passes : file_check (written codes values) ≡ Pass
  unfolding file_check
  file-passes = then-pass _ (header-passes codes values w.amount) ∙ then-pass _ w.codes_pass ∙ w.values_pass

  found : (i : ℕ) → i < length codes → group_offset (written codes values) (get_or codes i 0) ≡ 6 + i * 1729
  unfolding layout_of
  found i h =
      let file : List ℕ = written codes values in
      ap (λ (group : ℕ). group_offset file group) (sym (code_at codes values w.amount.each i h))
      ∙ finds (layout_of file) file (omega arith) (byte_at file 5) 6 i (omega arith) w.codes_pass (rw (count-written codes values) h)

codes-back : (codes values : List ℕ) → Amounts codes values → codes_of (written codes values) ≡ codes
unfolding layout_of
codes-back codes values a =
    let file : List ℕ = written codes values in
    let all : length (codes_of file) ≡ length codes = length-places (byte_at file) _ (byte_at file 5) 6 ∙ count-written codes values in
    ext_get_or 0 (codes_of file) codes all
    (λ i h. get_or-places (byte_at file) _ (byte_at file 5) 6 i 0 (omega (arith, count-written codes values)) ∙ code_at codes values a.each i (omega arith))

pub written-reads-back : WrittenReadsBack
unfolding WrittenReadsBack layout_of
written-reads-back codes values room pass =
    let w = writable codes values room pass in (
      codes-back codes values w.amount,
      λ i h.
          let at = found codes values room w i h in
          let inside : group_offset (written codes values) (get_or codes i 0) < length (written codes values) =
          omega (arith, at, length-written codes values w.amount.each) in (
            then-pass _ (file-passes codes values room w) ∙ group-there (written codes values) (get_or codes i 0) 0 inside,
            ap (λ (offset : ℕ). words_from (written codes values) 864 (offset + 1)) at ∙ table_at codes values w.amount.each i h,
          ),
    )

-- ---- an accepted file is rewritten to the same bytes

module _ (layout : Layout) (file : List ℕ) where
  length-values : (n at : ℕ) → length (values_from layout file n at) ≡ n * layout.entries
  unfolding values_from
  length-values zero at = sym (zero-mul layout.entries)
  length-values (suc n) at =
      simp (length-append, length-places, length-values n (at + profile_length layout)) (omega (arith, suc-mul n layout.entries))

module _ (file : List ℕ) (bytes : Below 256 file) where
  -- the bytes of the values that stand from `at` on
  bytes_back : (n at : ℕ) → at + n * 2 ≤ length file → bytes_of (words_from file n at) ++ drop (at + n * 2) file ≡ drop at file
  unfolding bytes_of each_from
  bytes_back zero at h = let here : at + zero * 2 ≡ at = omega arith in rw here
  bytes_back (suc n) at h =
      let high : word_at file at / 256 ≡ byte_at file at = omega (arith, bytes (at + 1) (omega arith)) in
      let low : word_at file at % 256 ≡ byte_at file (at + 1) = omega (arith, bytes (at + 1) (omega arith)) in
      let there : at + suc n * 2 ≡ at + 2 + n * 2 = omega arith in
      let next : suc (suc at) ≡ at + 2 = omega arith in
      rw (high, low, there, bytes_back n (at + 2) (omega arith), drop-cons file at 0 (omega arith), drop-cons file (suc at) 0 (omega arith), add-one at, next)

  -- the profiles of the contents that stand from `at` on, up to the file's end
  profiles-back : (layout : Layout) → layout.before ≡ 1 → (n at : ℕ) → at + n * profile_length layout ≡ length file →
      profiles_of layout.entries (codes_from layout file n at) (values_from layout file n at) ≡ drop at file
  unfolding profiles_of each_from values_from
  profiles-back layout one zero at e =
      let past : length file ≤ at = omega (arith, zero-mul (profile_length layout)) in
      sym (drop_of_length-le file past)
  profiles-back layout one (suc n) at e =
      let step : ℕ = profile_length layout in
      let own : List ℕ = words_from file layout.entries (at + layout.before) in
      let others : List ℕ = values_from layout file n (at + step) in
      let full : length own ≡ layout.entries = length-places (word_at file) 2 layout.entries (at + layout.before) in
      let strides : suc n * step ≡ n * step + step = suc-mul n step in
      let there : at + step ≡ at + layout.before + layout.entries * 2 = omega arith in
      let values-here : at + layout.before ≡ suc at = omega arith in
      rw (take_at own others layout.entries full, drop_at own others layout.entries full, profiles-back layout one n (at + step) (omega arith))
      (ap (λ (k : ℕ). byte_at file at ∷ (bytes_of own ++ drop k file)) there
      ∙ ap (λ (l : List ℕ). byte_at file at ∷ l) (bytes_back layout.entries (at + layout.before) (omega arith))
      ∙ ap (λ (k : ℕ). byte_at file at ∷ drop k file) values-here
      ∙ sym (drop-cons file at 0 (omega arith)))

  -- the file is its header and what follows
  headed : 6 ≤ length file →
      byte_at file 0 ∷ byte_at file 1 ∷ byte_at file 2 ∷ byte_at file 3 ∷ byte_at file 4 ∷ byte_at file 5 ∷ drop 6 file ≡ file
  headed h =
      rw (
        ← drop-cons file 5 0 (omega arith),
        ← drop-cons file 4 0 (omega arith),
        ← drop-cons file 3 0 (omega arith),
        ← drop-cons file 2 0 (omega arith),
        ← drop-cons file 1 0 (omega arith),
        ← drop-cons file 0 0 (omega arith),
      )

  rewritten : Accepted file → written (codes_of file) (values_of file) ≡ file
  unfolding written bytes_of layout_of
  rewritten a =
      let high : byte_at file 3 ≡ 0 = omega (arith, a.headed.version, bytes 4 (omega (arith, a.headed.header))) in
      let low : byte_at file 4 ≡ 1 = omega (arith, a.headed.version) in
      rw (length-places (byte_at file) _ (byte_at file 5) 6, profiles-back (layout_of file) refl (byte_at file 5) 6 (sym a.headed.laid.whole))
      (rw (a.headed.letter0, a.headed.letter1, a.headed.letter2, high, low) at (headed a.headed.header))

  amounts-of : Accepted file → Amounts (codes_of file) (values_of file)
  unfolding layout_of
  amounts-of a =
      let count : length (codes_of file) ≡ byte_at file 5 = length-places (byte_at file) _ (byte_at file 5) 6 in
      record {
        some = rw count a.headed.some;
        most = rw count a.headed.most;
        each = length-values (layout_of file) file (byte_at file 5) 6 ∙ sym (ap (λ (n : ℕ). n * 864) count);
      }

pub accepted-is-rewritten : AcceptedIsRewritten
unfolding AcceptedIsRewritten write_check
accepted-is-rewritten file bytes pass room long =
    let a = accepted file pass in
    let same : written (codes_of file) (values_of file) ≡ file = rewritten file bytes a in (
      rw same
          (then-pass _ (amount-passes (codes_of file) (values_of file) (amounts-of file bytes a))
          ∙ then-pass _ a.codes
          ∙ then-pass _ a.values
          ∙ room-enough (length file) room (omega arith)),
      same,
    )
