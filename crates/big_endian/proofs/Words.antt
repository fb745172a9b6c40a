-- The values of a part of a file are those of the file that stand there, one by one. Assumes nothing.
use mathlib.Core.Path.{◌≡◌, ◌∙◌}
use mathlib.Core.List.{List}
use Prim.Native.Nat.{ℕ, ◌+◌, ◌*◌, ◌<◌}
use native.Mathlib.Omega.{arith}
use lib.ListN.{take, drop}
use lib.Seq.{get_or-take, get_or-drop}
use Rattle.lists.proofs.Strides.{places-agree}
use Rattle.big_endian.specs.BigEndian.{byte_at, word_at, words_from}

byte-part : (file : List ℕ) (start size at : ℕ) → at < size → byte_at (take size (drop start file)) at ≡ byte_at file (start + at)
byte-part file start size at h = get_or-take size (drop start file) at 0 h ∙ get_or-drop start file at 0

-- a value of the part that begins at `start`
pub word-part : (file : List ℕ) (start size at : ℕ) → at + 1 < size → word_at (take size (drop start file)) at ≡ word_at file (start + at)
word-part file start size at h =
    let e : start + (at + 1) ≡ start + at + 1 = omega arith in
    rw (byte-part file start size at (omega arith), byte-part file start size (at + 1) h, e)

-- all n values of the part that begins at `start`
pub words-located : (file : List ℕ) (start n : ℕ) → words_from (take (n * 2) (drop start file)) n 0 ≡ words_from file n start
words-located file start n =
    places-agree (word_at (take (n * 2) (drop start file))) 2 (word_at file) n 0 start
    (λ i h.
    let e : start + (0 + i * 2) ≡ start + i * 2 = omega arith in
    rw (word-part file start (n * 2) (0 + i * 2) (omega arith), e))
