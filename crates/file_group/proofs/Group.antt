-- Where a wanted group stands: what it tells that it was found, and what its table holds. Assumes nothing.
use Rattle.refusal.specs.Questions.{answered}
use Rattle.std.specs.Prelude.{Result, Ok, Err, Some}
use Rattle.std.specs.List.{find, range_with_len}
use Rattle.std.specs.Option.{MatchOption}
use mathlib.Core.Path.{◌≡◌, refl, sym, ◌∙◌, ap}
use mathlib.Core.Bool.{Bool, true, false, cond}
use mathlib.Core.List.{List, map}
use Prim.Native.Nat.{ℕ, zero, suc, ◌+◌, ◌*◌, ◌/◌, ◌≤◌, ◌<◌}
use native.Mathlib.Omega.{arith}
use native.Mathlib.Nat.{suc-mul, mul-le-mul_right}
use lib.Dec.{eqb}
use lib.ListN.{length, get_or, length-take, length-drop}
use borrow.Author.Tests.{eqb-true, ltb-true, lt-ltb, le-ltb}
use Rattle.lists.proofs.Strides.{length-places, get_or-places}
use Rattle.big_endian.specs.BigEndian.{byte_at, word_at}
use Rattle.big_endian.specs.Inside.{words_of}
use Rattle.big_endian.proofs.Words.{words-located}
use Rattle.refusal.specs.declared.Refusal.{Refusal}
use Rattle.refusal.specs.declared.Refusal.TheVariants.{NoGroup}
use Rattle.refusal.specs.Questions.{Verdict}
use Rattle.refusal.specs.Questions.{Pass}
use Rattle.refusal.proofs.Questions.{ask-yes, ask-no, ask-passed, then-first, then_next}
use Rattle.file_layout.specs.declared.Layout.{Layout}
use Rattle.file_layout.specs.Header.{header_length, layout_of, profile_length}
use Rattle.file_layout.specs.Inside.{LaidOut}
use Rattle.file_check.specs.Check.{file_check}
use Rattle.file_check.proofs.Check.{accepted, profile_at, value-bound}
use Rattle.file_group.specs.Group.{offset_among, group_offset, group_question, check, values_offset, table_of}
use Rattle.file_layout.specs.Inside.{value_bytes}

-- whether the code at a place is the group's
abbrev pub is_groups : List ℕ → ℕ → ℕ → Bool
is_groups file group at = eqb (byte_at file at) group

-- the places of the n codes from the k-th on
abbrev pub places : Layout → ℕ → ℕ → List ℕ
places layout k n = map (profile_at layout) (range_with_len k n)

-- the first of these places where the code is the group's is its offset among them, and its profile ends where they end or before;
-- where none is, the offset is the place behind them
pub found-among : (layout : Layout) (file : List ℕ) (group n k : ℕ) →
    MatchOption (find (is_groups file group) (places layout k n))
    (offset_among layout file group n (profile_at layout k) ≡ profile_at layout (k + n))
    (λ at. (at ≡ offset_among layout file group n (profile_at layout k)) × (at + profile_length layout ≤ profile_at layout (k + n)))
unfolding offset_among
found-among layout file group zero k = omega arith
found-among layout file group (suc n) k =
    let next : profile_at layout k + profile_length layout ≡ profile_at layout (k + 1) = omega arith in
    let last : profile_at layout (k + suc n) ≡ profile_at layout (k + 1 + n) = omega arith in
    rw (next, last) (turn (is_groups file group (profile_at layout k)) (found-among layout file group n (k + 1)))
  where
    later : ℕ
    later = offset_among layout file group n (profile_at layout (k + 1))

    turn : (b : Bool) →
        MatchOption (find (is_groups file group) (places layout (k + 1) n)) (later ≡ profile_at layout (k + 1 + n))
        (λ at. (at ≡ later) × (at + profile_length layout ≤ profile_at layout (k + 1 + n))) →
        MatchOption (cond b (Some (profile_at layout k)) (find (is_groups file group) (places layout (k + 1) n)))
        (cond b (profile_at layout k) later ≡ profile_at layout (k + 1 + n))
        (λ at. (at ≡ cond b (profile_at layout k) later) × (at + profile_length layout ≤ profile_at layout (k + 1 + n)))
    turn true found =
        let whole = mul-le-mul_right {m = k + 1} {n = k + 1 + n} (profile_length layout) (omega arith) in
        (refl, omega (arith, whole))
    turn false found = found

-- the group's code stands at `found`, which is the code of the k-th of n profiles from `at` on
pub record Stands (layout : Layout) (file : List ℕ) (group n at found : ℕ) : Type 0 where
  pub k : ℕ
  pub below : k < n
  pub place : found ≡ at + k * profile_length layout
  pub code : byte_at file found ≡ group

pub stands : (layout : Layout) (file : List ℕ) (group n at : ℕ) → offset_among layout file group n at < at + n * profile_length layout →
    Stands layout file group n at (offset_among layout file group n at)
unfolding offset_among
stands layout file group zero at h = absurd (omega arith)
stands layout file group (suc n) at h =
    turn (λ g. stands layout file group n (at + profile_length layout) g) (eqb (byte_at file at) group) refl h
  where
    next : ℕ
    next = offset_among layout file group n (at + profile_length layout)

    turn : (next < at + profile_length layout + n * profile_length layout → Stands layout file group n (at + profile_length layout) next) →
        (b : Bool) → eqb (byte_at file at) group ≡ b → cond b at next < at + suc n * profile_length layout →
        Stands layout file group (suc n) at (cond b at next)
    turn later true e l = record { k = 0; below = omega arith; place = omega arith; code = eqb-true _ _ e }
    turn later false e l =
        let s = later (omega (arith, suc-mul n (profile_length layout))) in
        record { k = suc s.k; below = omega arith; place = omega (arith, suc-mul s.k (profile_length layout)); code = s.code }

-- question 6, by where the group's code stands
module _ (file : List ℕ) (group place : ℕ) where
  pub group-there : group_offset file group < length file → group_question file group place ≡ Pass
  unfolding group_question
  group-there h = ask-yes (NoGroup place) (lt-ltb _ _ h)

  pub group-missing : length file ≤ group_offset file group → group_question file group place ≡ Err (NoGroup place)
  unfolding group_question
  group-missing h = ask-no (NoGroup place) (le-ltb _ _ h)

  pub group-stands : group_question file group place ≡ Pass → group_offset file group < length file
  unfolding group_question
  group-stands h = ltb-true _ _ (ask-passed _ (NoGroup place) h)

-- what an answer tells of the questions asked
pub found_at : (v : Verdict) {at offset : ℕ} → Ok at ≡ answered v offset → (v ≡ Pass) × (at ≡ offset)
found_at (Ok _) h = (refl, cc)
found_at (Err r) h = let z : ◌≡◌ {A = ℕ} 0 1 = cc in absurd (omega arith)

-- and the other way round
pub answers_at : {v : Verdict} {at offset : ℕ} → v ≡ Pass → at ≡ offset → Ok at ≡ answered v offset
answers_at p e = rw (p, e)

pub answers-refused : {v : Verdict} {r : Refusal} (offset : ℕ) → v ≡ Err r → Err r ≡ answered v offset
answers-refused offset h = rw h

-- a group of an accepted file: its profile lies in the file
pub record Checked (file : List ℕ) (group : ℕ) : Type 0 where
  pub passed : file_check file ≡ Pass
  pub stands : Stands (layout_of file) file group (layout_of file).count header_length (group_offset file group)
  pub inside : group_offset file group + profile_length (layout_of file) ≤ length file

module _ (file : List ℕ) (group place : ℕ) where
  pub checked : file_check file ≡ Pass → group_question file group place ≡ Pass → Checked file group
  checked p q =
      let layout = layout_of file in
      let whole = (accepted file p).headed.laid.whole in
      let s = stands layout file group layout.count header_length (omega (arith, group-stands file group place q)) in
      let last = mul-le-mul_right {m = suc s.k} {n = layout.count} (profile_length layout) s.below in
      record { passed = p; stands = s; inside = omega (arith, s.place, suc-mul s.k (profile_length layout)) }

pub check-passed : (file : List ℕ) (group : ℕ) → check file group ≡ Pass → Checked file group
check-passed file group h =
    checked file group 0 (then-first (file_check file) _ h) (then_next (file_check file) _ h)

pub table-length : (file : List ℕ) (group : ℕ) → length (table_of file group) ≡ (layout_of file).entries
table-length file group = length-places (word_at file) 2 _ _

-- "A value P is .. 0 to 20,000"
pub table-bound : (file : List ℕ) (group i d : ℕ) → Checked file group → i < (layout_of file).entries → get_or (table_of file group) i d ≤ 20_000
table-bound file group i d c l =
    let layout = layout_of file in
    let s = c.stands in
    rw (get_or-places (word_at file) 2 layout.entries (group_offset file group + layout.before) i d l, s.place)
    (value-bound file (accepted file c.passed) s.k i s.below l)

-- "it passed, so it was found": a group whose code stands at `at`, and what its callers need of it
pub record FoundAt (file : List ℕ) (group at : ℕ) : Type 0 where
  pub checked : Checked file group
  pub place : at ≡ group_offset file group

module _ (file : List ℕ) (group : ℕ) {at : ℕ} where
  pub found-checked : {found : Result ℕ Refusal} → found ≡ Ok at → found ≡ answered (check file group) (group_offset file group) →
      (check file group ≡ Pass) × FoundAt file group at
  found-checked e h =
      let told = found_at _ (sym e ∙ h) in
      (told.0, record { checked = check-passed file group told.0; place = told.1 })

  pub found-besides : (place : ℕ) → file_check file ≡ Pass → Ok at ≡ answered (group_question file group place) (group_offset file group) → FoundAt file group at
  found-besides place p h =
      let told = found_at _ h in
      record { checked = checked file group place p told.0; place = told.1 }

module _ (file : List ℕ) (group : ℕ) {at : ℕ} (f : FoundAt file group at) where
  pub values-inside : LaidOut (layout_of file) file × (at + profile_length (layout_of file) ≤ length file)
  values-inside = ((accepted file f.checked.passed).headed.laid, rw f.place f.checked.inside)

  -- a part of the file that has the group's value bytes
  module _ {part : List ℕ} (bytes : part ≡ value_bytes file at) where
    pub part_length : length part ≡ (layout_of file).entries * 2
    part_length = ap length bytes ∙ (simp (length-take, length-drop) (omega (arith, values-inside.1)))

    pub part_count : length part / 2 ≡ (layout_of file).entries
    part_count = omega (arith, part_length)

    pub part-words : words_of part ≡ table_of file group
    part-words = rw (part_count, bytes, f.place) (words-located file (values_offset file group) (layout_of file).entries)
