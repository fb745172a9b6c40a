-- What a header that passed questions 1 to 3 tells, by name. Assumes nothing.
use mathlib.Core.Path.{◌≡◌, sym}
use mathlib.Core.List.{List}
use Prim.Native.Nat.{ℕ, ◌+◌, ◌*◌, ◌≤◌}
use native.Mathlib.Omega.{arith}
use lib.ListN.{length, length-take, length-drop}
use borrow.Author.Tests.{leb-true, eqb-true}
use Rattle.std.specs.Prelude.{Err}
use Rattle.std.proofs.lemmas.Bool.{false_from_ne_true}
use Rattle.big_endian.specs.BigEndian.{byte_at, word_at}
use Rattle.refusal.specs.Questions.{Pass}
use Rattle.refusal.specs.declared.Refusal.TheVariants.{NoMark, WrongVersion, WrongLength}
use Rattle.refusal.proofs.Questions.{ask-yes, ask-no, ask-passed, then-first, then_next, both}
use Rattle.file_layout.specs.declared.Layout.{Layout}
use Rattle.file_layout.specs.Header.{mark, header_length, layout_of, profile_length, file_length, mark_question, version_question, length_question, header_check}
use Rattle.file_layout.specs.Inside.{Sound, LaidOut, value_bytes}

-- questions 1 to 3 passed
pub record Headed (file : List ℕ) : Type 0 where
  pub header : header_length ≤ length file
  pub letter0 : byte_at file 0 ≡ byte_at mark 0
  pub letter1 : byte_at file 1 ≡ byte_at mark 1
  pub letter2 : byte_at file 2 ≡ byte_at mark 2
  pub version : word_at file 3 ≡ 1
  pub some : 1 ≤ (layout_of file).count
  pub most : (layout_of file).count ≤ 11
  pub laid : LaidOut (layout_of file) file

pub sound : (file : List ℕ) → Sound (layout_of file)
unfolding layout_of
sound file = record { coded = omega arith; small = omega arith }

-- a profile has more bytes than the header
pub profile_behind_header : (file : List ℕ) (at : ℕ) → at + profile_length (layout_of file) ≤ length file → header_length ≤ length file
unfolding layout_of
profile_behind_header file at h = omega arith

-- and as many value bytes as its layout says
pub value_bytes_long : (file : List ℕ) (at : ℕ) → at + profile_length (layout_of file) ≤ length file →
    length (value_bytes file at) ≡ (layout_of file).entries * 2
value_bytes_long file at h = simp (length-take, length-drop) (omega arith)

-- question 1 passed
pub record Marked (file : List ℕ) : Type 0 where
  pub long : header_length ≤ length file
  pub letter0 : byte_at file 0 ≡ byte_at mark 0
  pub letter1 : byte_at file 1 ≡ byte_at mark 1
  pub letter2 : byte_at file 2 ≡ byte_at mark 2

marked : (file : List ℕ) → mark_question file ≡ Pass → Marked file
unfolding mark_question
marked file h =
    let all = both _ _ (ask-passed _ NoMark h) in
    let two = both _ _ all.0 in
    let one = both _ _ two.0 in
    record {
      long = leb-true _ _ one.0;
      letter0 = eqb-true _ _ one.1;
      letter1 = eqb-true _ _ two.1;
      letter2 = eqb-true _ _ all.1;
    }

pub no-mark : (file : List ℕ) → (Marked file → ⊥) → Err NoMark ≡ mark_question file
unfolding mark_question
no-mark file never = sym (ask-no NoMark (false_from_ne_true _ (λ h. never (marked file (ask-yes NoMark h)))))

-- question 3 passed
pub record Counted (layout : Layout) (file : List ℕ) : Type 0 where
  pub some : 1 ≤ layout.count
  pub most : layout.count ≤ 11
  pub whole : length file ≡ file_length layout

counted : (layout : Layout) (file : List ℕ) → length_question layout file ≡ Pass → Counted layout file
unfolding length_question
counted layout file h =
    let all = both _ _ (ask-passed _ WrongLength h) in
    let ends = both _ _ all.0 in
    record { some = leb-true _ _ ends.0; most = leb-true _ _ ends.1; whole = eqb-true _ _ all.1 }

pub wrong-length : (layout : Layout) (file : List ℕ) → (Counted layout file → ⊥) → Err WrongLength ≡ length_question layout file
unfolding length_question
wrong-length layout file never = sym (ask-no WrongLength (false_from_ne_true _ (λ h. never (counted layout file (ask-yes WrongLength h)))))

pub header_long : (file : List ℕ) → mark_question file ≡ Pass → header_length ≤ length file
header_long file h = (marked file h).long

pub headed : (file : List ℕ) → header_check file ≡ Pass → Headed file
unfolding header_check version_question
headed file h =
    let letters = marked file (then-first (mark_question file) _ h) in
    let rest = then_next (mark_question file) _ h in
    let count = counted (layout_of file) file (then_next (version_question file) _ rest) in
    record {
      header = letters.long;
      letter0 = letters.letter0;
      letter1 = letters.letter1;
      letter2 = letters.letter2;
      version = eqb-true _ _ (ask-passed _ WrongVersion (then-first (version_question file) _ rest));
      some = count.some;
      most = count.most;
      laid = record { sound = sound file; whole = count.whole };
    }

pub laid_out : (file : List ℕ) → header_check file ≡ Pass → LaidOut (layout_of file) file
laid_out file h = (headed file h).laid
