-- What stands where in a written file: profile i begins at 6 + i * 1729, with code i and, from the byte after, its 864 values.
-- A place of a file is read off what stands from there on, `drop at file`, so no law speaks of what stands before.
-- Assumes nothing.
use mathlib.Core.Path.{◌≡◌, refl, sym, ◌∙◌, ap}
use mathlib.Core.List.{List, [], ◌∷◌, ◌++◌}
use Prim.Native.Nat.{ℕ, zero, suc, ◌+◌, ◌*◌, ◌/◌, ◌%◌, ◌≤◌, ◌<◌}
use native.Mathlib.Nat.{add-zero, zero-mul, suc-mul}
use native.Mathlib.Omega.{arith}
use native.Mathlib.Numerals.{one-add}
use lib.ListN.{length, take, drop, get_or, length-append, length-drop}
use lib.Seq.{drop-cons, get_or-drop, drop-drop, drop_at, length-take-le}
use Rattle.lists.specs.Lists.{each_from}
use Rattle.big_endian.specs.BigEndian.{byte_at, word_at, words_from, bytes_of}
use Rattle.file_written.specs.Written.{profiles_of, written}

pub byte-there : (file : List ℕ) (at k : ℕ) {rest : List ℕ} → drop at file ≡ rest → byte_at file (at + k) ≡ get_or rest k 0
byte-there file at k e = sym (get_or-drop at file k 0) ∙ ap (λ (l : List ℕ). get_or l k 0) e

pub byte-here : (file : List ℕ) (at : ℕ) {rest : List ℕ} → drop at file ≡ rest → byte_at file at ≡ get_or rest 0 0
byte-here file at e = ap (λ (k : ℕ). byte_at file k) (sym (add-zero at)) ∙ byte-there file at 0 e

pub from-there : (file : List ℕ) (at k : ℕ) {rest : List ℕ} → drop at file ≡ rest → drop (at + k) file ≡ drop k rest
from-there file at k e = sym (drop-drop k at file) ∙ ap (λ (l : List ℕ). drop k l) e

pub length-bytes : (values : List ℕ) → length (bytes_of values) ≡ length values * 2
unfolding bytes_of
length-bytes [] = refl
length-bytes (v ∷ values) = omega (arith, length-bytes values)

-- values that were written are read back
pub words_back : (file values rest : List ℕ) (at : ℕ) → drop at file ≡ bytes_of values ++ rest →
    words_from file (length values) at ≡ values
unfolding bytes_of each_from
words_back file [] rest at e = refl
words_back file (v ∷ values) rest at e =
    let high : byte_at file at ≡ v / 256 = byte-here file at e in
    let low : byte_at file (at + 1) ≡ v % 256 = byte-there file at 1 e in
    let whole : word_at file at ≡ v = omega arith in
    rw (whole, words_back file values rest (at + 2) (from-there file at 2 e))

-- of profiles with n values each
module _ (n : ℕ) where
  pub length-profiles : (codes values : List ℕ) → length values ≡ length codes * n →
      length (profiles_of n codes values) ≡ length codes * (1 + n * 2)
  unfolding profiles_of
  length-profiles [] values e = sym (zero-mul (1 + n * 2))
  length-profiles (code ∷ codes) values e =
      let one : suc (length codes) * n ≡ length codes * n + n = suc-mul (length codes) n in
      let step : suc (length codes) * (1 + n * 2) ≡ length codes * (1 + n * 2) + (1 + n * 2) = suc-mul (length codes) (1 + n * 2) in
      let rest : length (profiles_of n codes (drop n values)) ≡ length codes * (1 + n * 2) =
      length-profiles codes (drop n values) (simp length-drop (omega arith)) in
      let own : length (bytes_of (take n values)) ≡ n * 2 = omega (arith, length-bytes (take n values), length-take-le n values (omega arith)) in
      omega (arith, length-append (bytes_of (take n values)) (profiles_of n codes (drop n values)))

  -- past one profile stand the others
  past_one : (code : ℕ) (codes values : List ℕ) → n ≤ length values →
      drop (1 + n * 2) (profiles_of n (code ∷ codes) values) ≡ profiles_of n codes (drop n values)
  unfolding profiles_of
  past_one code codes values h =
      let own : length (bytes_of (take n values)) ≡ n * 2 = omega (arith, length-bytes (take n values), length-take-le n values h) in
      rw (one-add) (drop_at (bytes_of (take n values)) (profiles_of n codes (drop n values)) (n * 2) own)

  -- from profile i on
  pub profile-at : (i : ℕ) (codes values : List ℕ) → i ≤ length codes → length values ≡ length codes * n →
      drop (i * (1 + n * 2)) (profiles_of n codes values) ≡ profiles_of n (drop i codes) (drop (i * n) values)
  profile-at zero codes values h e = rw (zero-mul (1 + n * 2), zero-mul n)
  profile-at (suc i) [] values h e = absurd (omega arith)
  profile-at (suc i) (code ∷ codes) values h e =
      let own : suc (length codes) * n ≡ length codes * n + n = suc-mul (length codes) n in
      let bytes : suc i * (1 + n * 2) ≡ (1 + n * 2) + i * (1 + n * 2) = omega (arith, suc-mul i (1 + n * 2)) in
      let passed : suc i * n ≡ n + i * n = omega (arith, suc-mul i n) in
      rw (bytes, passed, ← drop-drop (i * (1 + n * 2)) (1 + n * 2), ← drop-drop (i * n) n, past_one code codes values (omega arith))
      (profile-at i codes (drop n values) (omega arith) (simp length-drop (omega arith)))

-- of the whole file
module _ (codes values : List ℕ) (each : length values ≡ length codes * 864) where
  pub length-written : length (written codes values) ≡ 6 + length codes * 1729
  unfolding written bytes_of
  length-written = omega (arith, length-profiles 864 codes values each)

  pub written_from : (i : ℕ) → i ≤ length codes →
      drop (6 + i * 1729) (written codes values) ≡ profiles_of 864 (drop i codes) (drop (i * 864) values)
  unfolding written bytes_of
  written_from i h = from-there (written codes values) 6 (i * 1729) refl ∙ profile-at 864 i codes values h each

  pub code_at : (i : ℕ) → i < length codes → byte_at (written codes values) (6 + i * 1729) ≡ get_or codes i 0
  unfolding profiles_of
  code_at i h =
      byte-here (written codes values) (6 + i * 1729)
      (written_from i (omega arith) ∙ ap (λ (cs : List ℕ). profiles_of 864 cs (drop (i * 864) values)) (drop-cons codes i 0 h))

  pub table_at : (i : ℕ) → i < length codes →
      words_from (written codes values) 864 (6 + i * 1729 + 1) ≡ take 864 (drop (i * 864) values)
  unfolding profiles_of
  table_at i h =
      let own : List ℕ = take 864 (drop (i * 864) values) in
      let full : length own ≡ 864 = length-take-le 864 (drop (i * 864) values) (simp length-drop (omega arith)) in
      rw full at
      (words_back (written codes values) own (profiles_of 864 (drop (suc i) codes) (drop 864 (drop (i * 864) values))) (6 + i * 1729 + 1)
      (from-there (written codes values) (6 + i * 1729) 1
      (written_from i (omega arith) ∙ ap (λ (cs : List ℕ). profiles_of 864 cs (drop (i * 864) values)) (drop-cons codes i 0 h))))
