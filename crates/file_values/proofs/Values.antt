-- Upper bytes joined bit by bit: what the joined number tells of each of them, and of question 5. Assumes nothing.
use Rattle.std.proofs.Common.{◌≡◌, ℕ, zero, suc, ◌+◌, ◌*◌, ◌%◌, ◌/◌, ◌≤◌, ◌<◌, List, [], ◌∷◌, length, take, drop, get_or, arith, true, bit_or, Option, Some, None}
use Rattle.std.specs.Borrow.{Bor}
use Rattle.std.specs.Iterator.Runs.{Run, IsChunksExactRun}
use Rattle.std.specs.List.{fold}
use Rattle.std.specs.Slice.Iter.{chunks_exact_steps, chunks_exact_rest, chunks_exact_size}
use Rattle.std.specs.Option.{IfSome, option_map}
use Rattle.std.proofs.lemmas.Nat.{or_mod, le_or_l, le_or_r}
use native.Mathlib.Nat.{add-zero}
use borrow.Author.Tests.{le-leb}
use Rattle.big_endian.specs.BigEndian.{byte_at, word_at}
use Rattle.big_endian.proofs.Words.{word-part}
use Rattle.refusal.specs.Questions.{Pass, ask_each}
use Rattle.refusal.specs.declared.Refusal.TheVariants.{BadValue}
use Rattle.refusal.proofs.Questions.{ask-yes, each-pass}
use Rattle.file_values.specs.Values.{value_question}
use Rattle.file_values.specs.Inside.{UpperBytes}

-- the lower byte of two joined numbers is at least that of each
module _ (a b : ℕ) where
  joined-first : a % 256 ≤ bit_or a b % 256
  joined-first = rw (or_mod a b 8) (le_or_l (a % 256) (b % 256))

  joined-second : b % 256 ≤ bit_or a b % 256
  joined-second = rw (or_mod a b 8) (le_or_r (a % 256) (b % 256))

-- one value more is joined
abbrev pub join : ℕ → Bor (List ℕ) → ℕ
join joined value = bit_or joined (byte_at value.now 0 + byte_at value.now 1 * 256)

joined-before : (values : List (Bor (List ℕ))) (joined : ℕ) → joined % 256 ≤ fold join joined values % 256
joined-before [] joined = omega arith
joined-before (value ∷ values) joined =
    omega (arith, joined-before values (join joined value), joined-first joined (byte_at value.now 0 + byte_at value.now 1 * 256))

-- each of them is at most what all come to
joined-each : (values : List (Bor (List ℕ))) (joined k : ℕ) (none : Bor (List ℕ)) → k < length values →
    byte_at (get_or values k none).now 0 % 256 ≤ fold join joined values % 256
joined-each [] joined k none h = absurd (omega arith)
joined-each (value ∷ values) joined zero none h =
    omega (arith, joined-before values (join joined value), joined-second joined (byte_at value.now 0 + byte_at value.now 1 * 256))
joined-each (value ∷ values) joined (suc k) none h = joined-each values (join joined value) k none (omega arith)

some-same : {A : Type 0} (P : A → Type 0) (found : Option A) (x : A) → option_map (λ y. y) found ≡ Some x → IfSome found P → P x
some-same P (Some y) x e h = let same : y ≡ x = cc in rw (← same) h
some-same P None x e h = let z : ◌≡◌ {A = ℕ} 0 1 = cc in absurd (omega arith)

-- no value is above 20,000 where the joined upper bytes are at most 77
pub upper-pass : (file : List ℕ) (at n joined : ℕ) → UpperBytes (take (n * 2) (drop at file)) n joined → joined % 256 ≤ 77 →
    ask_each (value_question file) 2 n at ≡ Pass
unfolding value_question
upper-pass file at n joined upper low =
    each-pass (value_question file) 2 n at
    (λ i h.
    let here = word-part file at (n * 2) (i * 2) (omega arith) in
    ask-yes (BadValue (at + i * 2)) (le-leb (word_at file (at + i * 2)) 20_000 (omega (arith, upper i h, here))))

-- what joining all values of some bytes tells
pub upper-joined : (values : List ℕ) (joined : ℕ) (run : Run (chunks_exact_steps {A = ℕ})) (none : Bor (List ℕ)) →
    ((i : ℕ) → byte_at values i < 256) → run.whole ≡ true → chunks_exact_size run.from ≡ 2 → chunks_exact_rest run.from ≡ values →
    IsChunksExactRun run (chunks_exact_size run.from) (chunks_exact_rest run.from) →
    joined ≡ fold join 0 run.items → UpperBytes values (length values / 2) joined
upper-joined values joined run none byte whole size rest chunks e i h =
    let here = rw (size, rest) at chunks.2 i in
    let count = rw (size, rest) at chunks.1 whole in
    let chunk = some-same _ (run.at i) (get_or run.items i none) (run.reads i none (omega arith)) here in
    let first : byte_at (get_or run.items i none).now 0 ≡ byte_at values (i * 2 + 0) = chunk.2.2 0 0 (omega arith) in
    let first = rw (add-zero (i * 2)) at first in
    omega (arith, joined-each run.items 0 i none (omega (arith, run.long)), byte (i * 2), byte (i * 2 + 1))
