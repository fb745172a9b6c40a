-- What a file that passed its questions tells, by name: the facts that callers of the reader need.
-- Each question that passed is turned back into the facts that it asks. Assumes nothing.
use mathlib.Core.Path.{◌≡◌}
use mathlib.Core.List.{List}
use Prim.Native.Nat.{ℕ, ◌+◌, ◌-◌, ◌*◌, ◌≤◌, ◌<◌}
use native.Mathlib.Omega.{arith}
use native.Mathlib.Nat.{mul-le-mul_right}
use lib.Dec.{leb}
use lib.ListN.{length}
use borrow.Author.Tests.{leb-true, ltb-true, ne_eqb}
use Rattle.lists.proofs.Strides.{stride}
use Rattle.big_endian.specs.BigEndian.{byte_at, word_at}
use Rattle.refusal.specs.Questions.{Pass}
use Rattle.refusal.specs.declared.Refusal.TheVariants.{BadCode, BadValue}
use Rattle.refusal.proofs.Questions.{ask-passed, then-first, then_next, each-passed, both}
use Rattle.file_layout.specs.declared.Layout.{Layout}
use Rattle.file_layout.specs.Header.{header_length, layout_of, profile_length, header_check}
use Rattle.file_layout.specs.Inside.{LaidOut}
use Rattle.file_layout.proofs.Header.{Headed, sound, headed}
use Rattle.file_values.specs.Values.{value_question, profile_values_question, values_question}
use Rattle.file_check.specs.Check.{code_question, codes_question, file_check}

-- questions 1 to 5 passed
pub record Accepted (file : List ℕ) : Type 0 where
  pub headed : Headed file
  pub codes : codes_question (layout_of file) file ≡ Pass
  pub values : values_question (layout_of file) file ≡ Pass

pub accepted : (file : List ℕ) → file_check file ≡ Pass → Accepted file
unfolding file_check
accepted file h =
    let rest = then_next (header_check file) _ h in
    record {
      headed = headed file (then-first (header_check file) _ h);
      codes = then-first (codes_question (layout_of file) file) _ rest;
      values = then_next (codes_question (layout_of file) file) _ rest;
    }

-- the offset of the k-th profile, counted from 0
abbrev pub profile_at : Layout → ℕ → ℕ
profile_at layout k = header_length + k * profile_length layout

-- its code stands in the file
pub profile-inside : (layout : Layout) (file : List ℕ) → LaidOut layout file → (k : ℕ) → k < layout.count → profile_at layout k < length file
profile-inside layout file laid k h =
    let last = mul-le-mul_right {m = k + 1} {n = layout.count} (profile_length layout) (omega arith) in
    omega (arith, last, laid.whole, laid.sound.coded)

-- every value is at most 20,000
pub value-bound : (file : List ℕ) → Accepted file → (k i : ℕ) → k < (layout_of file).count → i < (layout_of file).entries →
    word_at file (profile_at (layout_of file) k + (layout_of file).before + i * 2) ≤ 20_000
unfolding profile_values_question value_question
value-bound file a k i hk hi =
    let layout = layout_of file in
    let at = profile_at layout k + layout.before in
    let profile = each-passed (profile_values_question layout file) (profile_length layout) layout.count header_length k a.values hk in
    leb-true _ _ (ask-passed _ (BadValue (at + i * 2)) (each-passed (value_question file) 2 layout.entries at i profile hi))

-- question 4 passed of a code
pub record Rising (before code at : ℕ) : Type 0 where
  pub bound : code ≤ 10
  pub rises : (at ≡ header_length → ⊥) → before < code

pub rising-at : (layout : Layout) (file : List ℕ) (at : ℕ) → code_question layout file at ≡ Pass →
    Rising (byte_at file (at - profile_length layout)) (byte_at file at) at
unfolding code_question
rising-at layout file at h =
    let tests = both (leb (byte_at file at) 10) _ (ask-passed _ (BadCode at) h) in
    record { bound = leb-true _ _ tests.0; rises = λ later. ltb-true _ _ (rw (ne_eqb at header_length later) at tests.1) }

module _ (file : List ℕ) (a : Accepted file) (k : ℕ) (below : k < (layout_of file).count) where
  rising-code : Rising (byte_at file (profile_at (layout_of file) k - profile_length (layout_of file))) (byte_at file (profile_at (layout_of file) k)) (profile_at (layout_of file) k)
  rising-code =
      let l = layout_of file in
      rising-at l file _ (each-passed (code_question l file) (profile_length l) l.count header_length k a.codes below)

  -- every code is at most 10
  pub code-bound : byte_at file (profile_at (layout_of file) k) ≤ 10
  code-bound = rising-code.bound

  -- and above the one before
  pub codes-rise : 0 < k → byte_at file (profile_at (layout_of file) (k - 1)) < byte_at file (profile_at (layout_of file) k)
  codes-rise h =
      let at = profile_at (layout_of file) k in
      let s = stride k (profile_length (layout_of file)) h in
      let c = (sound file).coded in
      let before : at - profile_length (layout_of file) ≡ profile_at (layout_of file) (k - 1) = omega arith in
      rw before at (rising-code.rises (λ e. omega arith))
