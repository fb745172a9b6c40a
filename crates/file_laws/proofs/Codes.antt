-- Codes rise strictly through a file that passed question 4, so each group is found where its code stands.
-- Assumes nothing.
use mathlib.Core.Path.{◌≡◌, refl, sym, ◌∙◌, ap}
use mathlib.Core.Bool.{true, false}
use mathlib.Core.List.{List}
use Prim.Native.Nat.{ℕ, zero, suc, ◌+◌, ◌-◌, ◌*◌, ◌≤◌, ◌<◌}
use native.Mathlib.Omega.{arith}
use native.Mathlib.Nat.{suc-mul}
use lib.Dec.{leb, ltb, eqb}
use borrow.Author.Tests.{ltb-true, eq-eqb, ne_eqb}
use Rattle.big_endian.specs.BigEndian.{byte_at}
use Rattle.refusal.specs.declared.Refusal.TheVariants.{BadCode}
use Rattle.refusal.specs.Questions.{Pass}
use Rattle.refusal.specs.Questions.{ask_each}
use Rattle.refusal.proofs.Questions.{ask-passed, then-first, then_next, both}
use Rattle.file_layout.specs.declared.Layout.{Layout}
use Rattle.file_layout.specs.Header.{header_length, profile_length}
use Rattle.file_check.specs.Check.{code_question}
use Rattle.file_group.specs.Group.{offset_among}

-- the profiles of any layout, one stride apart
module _ (layout : Layout) (file : List ℕ) (forward : 0 < profile_length layout) where
  -- a code is above the one before it
  rises : (at : ℕ) → header_length ≤ at → code_question layout file (at + profile_length layout) ≡ Pass →
      byte_at file at < byte_at file (at + profile_length layout)
  unfolding code_question
  rises at h p =
      let step : ℕ = profile_length layout in
      let back : at + step - step ≡ at = omega arith in
      let later : eqb (at + step) header_length ≡ false = ne_eqb (at + step) header_length (λ e. omega arith) in
      let above : ltb (byte_at file (at + step - step)) (byte_at file (at + step)) ≡ true =
      rw later at (both (leb (byte_at file (at + step)) 10) _ (ask-passed _ (BadCode (at + step)) p)).1 in
      ltb-true _ _ (rw back at above)

  -- and so above every one before it
  below-later : (n at i : ℕ) → header_length ≤ at →
      ask_each (code_question layout file) (profile_length layout) n (at + profile_length layout) ≡ Pass → i < n →
      byte_at file at < byte_at file (at + profile_length layout + i * profile_length layout)
  unfolding ask_each
  below-later zero at i h p l = absurd (omega arith)
  below-later (suc n) at zero h p l =
      let step : ℕ = profile_length layout in
      let here : at + step + zero * step ≡ at + step = omega arith in
      rw here (rises at h (then-first _ _ p))
  below-later (suc n) at (suc i) h p l =
      let step : ℕ = profile_length layout in
      let there : at + step + suc i * step ≡ at + step + step + i * step = omega (arith, suc-mul i step) in
      rw there
      (omega
      (arith, rises at h (then-first _ _ p), below-later n (at + step) i (omega arith) (then_next (code_question layout file (at + step)) _ p) (omega arith)))

  -- a group is found where its code stands
  pub finds : (n at i : ℕ) → header_length ≤ at → ask_each (code_question layout file) (profile_length layout) n at ≡ Pass → i < n →
      offset_among layout file (byte_at file (at + i * profile_length layout)) n at ≡ at + i * profile_length layout
  unfolding ask_each offset_among
  finds zero at i h p l = absurd (omega arith)
  finds (suc n) at zero h p l =
      let here : at + zero * profile_length layout ≡ at = omega arith in
      rw (here, eq-eqb (byte_at file at) (byte_at file at) refl)
  finds (suc n) at (suc i) h p l =
      let step : ℕ = profile_length layout in
      let there : at + suc i * step ≡ at + step + i * step = omega (arith, suc-mul i step) in
      let rest : ask_each (code_question layout file) step n (at + step) ≡ Pass = then_next (code_question layout file at) _ p in
      let other : eqb (byte_at file at) (byte_at file (at + step + i * step)) ≡ false =
      ne_eqb (byte_at file at) (byte_at file (at + step + i * step)) (λ e. omega (arith, below-later n at i h rest (omega arith))) in
      let found : offset_among layout file (byte_at file (at + step + i * step)) (suc n) at ≡ at + step + i * step =
      rw other (finds n (at + step) i (omega arith) rest (omega arith)) in
      ap (λ (k : ℕ). offset_among layout file (byte_at file k) (suc n) at) there ∙ found ∙ sym there
