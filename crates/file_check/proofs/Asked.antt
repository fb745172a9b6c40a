-- Question 4 of the codes one by one, each with the one before it, is question 4 of each code of the file. Assumes nothing.
use Rattle.std.proofs.Common.{◌≡◌, ℕ, zero, suc, ◌+◌, ◌-◌, ◌*◌, ◌&&◌, List, [], ◌∷◌, map, refl, Option, Some, None, Err, leb, arith, sym, ◌∙◌}
use Rattle.std.specs.Iterator.{AlwaysYields}
use Rattle.std.specs.List.{range_with_len}
use Rattle.std.proofs.lemmas.Iterator.{YieldsList}
use native.Mathlib.Nat.{suc-mul}
use native.Mathlib.Numerals.{add-one}
use borrow.Author.Tests.{ne_eqb, eq-eqb}
use Rattle.big_endian.specs.BigEndian.{byte_at}
use Rattle.refusal.specs.declared.Refusal.TheVariants.{BadCode}
use Rattle.refusal.specs.declared.Refusal.{Refusal}
use Rattle.refusal.specs.Questions.{Verdict, Pass, ask, ask_each, ◌then◌}
use Rattle.refusal.proofs.Questions.{then-pass, stops}
use Rattle.file_layout.specs.declared.Layout.{Layout}
use Rattle.file_layout.specs.Header.{header_length, profile_length}
use Rattle.file_layout.specs.Inside.{Sound}
use Rattle.file_check.specs.Check.{code_question}
use Rattle.file_check.specs.Inside.{is_above, codes_asked}

module _ (layout : Layout) (file : List ℕ) where
  -- the code before the k-th one
  abbrev pub code_before : ℕ → Option ℕ
  code_before zero = None
  code_before (suc k) = Some (byte_at file (header_length + k * profile_length layout))

  pub one-before : (k : ℕ) → code_before (k + 1) ≡ Some (byte_at file (header_length + k * profile_length layout))
  one-before k = rw (add-one k)

  pub code-asked : (k : ℕ) → Sound layout →
      ask (leb (byte_at file (header_length + k * profile_length layout)) 10 && is_above (code_before k) (byte_at file (header_length + k * profile_length layout)))
      (BadCode (header_length + k * profile_length layout))
      ≡ code_question layout file (header_length + k * profile_length layout)
  unfolding code_question
  code-asked zero sound =
      let first : header_length + zero * profile_length layout ≡ header_length = omega arith in
      rw (eq-eqb _ _ first)
  code-asked (suc k) sound =
      let at = header_length + suc k * profile_length layout in
      let later : at - profile_length layout ≡ header_length + k * profile_length layout = omega (arith, suc-mul k (profile_length layout)) in
      let behind : at ≡ header_length → ⊥ = λ e. omega (arith, suc-mul k (profile_length layout), sound.coded) in
      rw (later, ne_eqb _ _ behind)

  -- the codes of n profiles from the k-th on, one after the other
  abbrev pub codes_from : ℕ → ℕ → List ℕ
  codes_from k n = map (λ j. byte_at file (header_length + j * profile_length layout)) (range_with_len k n)

  pub codes-asked : (n k : ℕ) → Sound layout →
      codes_asked (profile_length layout) (code_before k) (header_length + k * profile_length layout) (codes_from k n)
      ≡ ask_each (code_question layout file) (profile_length layout) n (header_length + k * profile_length layout)
  unfolding codes_asked ask_each
  codes-asked zero k sound = refl
  codes-asked (suc n) k sound =
      let next : header_length + k * profile_length layout + profile_length layout ≡ header_length + (k + 1) * profile_length layout = omega arith in
      let later = codes-asked n (k + 1) sound in
      rw (next, code-asked k sound, ← later, one-before k)

pub yields-all : {S A B : Type 0} {steps : S → Option A → S → Type 0} {v : A → B} {s : S} {all : List B} → YieldsList steps v s all → AlwaysYields steps v s all
yields-all y = y.runs

-- A loop over codes that an iterator gives: what is left to ask of them comes to the answer of the whole.
module _ {S : Type 0} (steps : S → Option ℕ → S → Type 0) (apart : ℕ) (whole : Verdict) where
  pub record CodesLeft (codes : S) (before : Option ℕ) (at : ℕ) : Type 0 where
    pub rest : List ℕ
    pub yields : AlwaysYields steps (λ code. code) codes rest
    pub comes : codes_asked apart before at rest ≡ whole

  -- a code comes next, and is asked before those behind it
  record Turn (next : S) (before : Option ℕ) (at code : ℕ) : Type 0 where
    rest : List ℕ
    yields : AlwaysYields steps (λ c. c) next rest
    comes : (ask (leb code 10 && is_above before code) (BadCode at) then codes_asked apart (Some code) (at + apart) rest) ≡ whole

  turn : (codes next : S) (before : Option ℕ) (at code : ℕ) (rest : List ℕ) → AlwaysYields steps (λ c. c) codes rest →
      codes_asked apart before at rest ≡ whole → steps codes (Some code) next → Turn next before at code
  unfolding codes_asked
  turn codes next before at code [] yields comes step = absurd (yields code next step)
  turn codes next before at code (x ∷ rest) yields comes step =
      let told = yields.1 code next step in
      record { rest = rest; yields = told.1; comes = rw told.0 comes }

  -- none is left
  ended : (codes next : S) (before : Option ℕ) (at : ℕ) (rest : List ℕ) → AlwaysYields steps (λ c. c) codes rest →
      codes_asked apart before at rest ≡ whole → steps codes None next → Pass ≡ whole
  unfolding codes_asked
  ended codes next before at [] yields comes step = comes
  ended codes next before at (x ∷ rest) yields comes step = absurd (yields.0 next step)

  module _ {codes next : S} {before : Option ℕ} {at : ℕ} (left : CodesLeft codes before at) where
    pub code-refused : (code : ℕ) → steps codes (Some code) next → {v : Verdict} {r : Refusal} →
        v ≡ ask (leb code 10 && is_above before code) (BadCode at) → v ≡ Err r → Err r ≡ whole
    code-refused code step asked refused =
        stops _ asked refused ∙ (turn codes next before at code left.rest left.yields left.comes step).comes

    pub code_passed : (code : ℕ) → steps codes (Some code) next → {v : Verdict} →
        v ≡ ask (leb code 10 && is_above before code) (BadCode at) → v ≡ Pass → CodesLeft next (Some code) (at + apart)
    code_passed code step asked passed =
        let t = turn codes next before at code left.rest left.yields left.comes step in
        record { rest = t.rest; yields = t.yields; comes = sym (then-pass _ (sym asked ∙ passed)) ∙ t.comes }

    pub codes-end : steps codes None next → Pass ≡ whole
    codes-end step = ended codes next before at left.rest left.yields left.comes step
