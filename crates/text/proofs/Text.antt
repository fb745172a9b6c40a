-- The decimal digits of a number: how many there are, and that its last digits, as many as there are, are all.
-- Assumes nothing.
use mathlib.Core.Path.{◌≡◌, refl, ◌∙◌}
use mathlib.Core.List.{List, [], ◌∷◌, ◌++◌}
use mathlib.Core.Logic.{⊎_elim}
use Prim.Native.Nat.{ℕ, zero, suc, ◌+◌, ◌*◌, ◌/◌, ◌%◌, ◌^◌, ◌≤◌, ◌<◌}
use native.Mathlib.Omega.{arith}
use native.Mathlib.Nat.{eq-zero-or-pos, pow-succ'}
use lib.ListN.{length, length-append}
use borrow.Author.Tests.{lt-ltb, le-ltb}
use Rattle.text.specs.Text.{digit, digits, decimal_text}
use Rattle.text.specs.Inside.{last_digits}

-- the digits in front of the last: none where nothing is left
abbrev pub front : ℕ → ℕ → List ℕ
front zero n = []
front (suc k) zero = []
front (suc k) (suc n) = digits (suc k) (suc n)

pub front-none : (k : ℕ) → front k 0 ≡ []
front-none zero = refl
front-none (suc k) = refl

pub front-some : (k n : ℕ) → 0 < n → front k n ≡ digits k n
unfolding digits
front-some zero n h = refl
front-some (suc k) zero h = absurd (omega arith)
front-some (suc k) (suc n) h = refl

pub digits_last : (k n : ℕ) → digits (suc k) n ≡ front k (n / 10) ++ (digit (n % 10) ∷ [])
unfolding digits
digits_last k n =
    ⊎_elim
    (λ none. let same : n % 10 ≡ n = omega arith in rw (lt-ltb n 10 (omega arith), none, same, front-none k))
    (λ some. rw (le-ltb n 10 (omega arith), front-some k (n / 10) some))
    (eq-zero-or-pos (n / 10))

pub digits-count : (k n : ℕ) → length (digits (suc k) n) ≡ suc (length (front k (n / 10)))
digits-count k n = rw (digits_last k n) (omega (arith, length-append (front k (n / 10)) (digit (n % 10) ∷ [])))

-- a number below 10 ^ j has at most j digits
front-short : (k n j : ℕ) → n < 10 ^ j → length (front k n) ≤ j
front-short zero n j h = omega arith
front-short (suc k) zero j h = omega arith
front-short (suc k) (suc n) zero h = omega arith
front-short (suc k) (suc n) (suc j) h =
    let less : suc n / 10 < 10 ^ j = omega (arith, pow-succ' 10 j) in
    omega (arith, digits-count k (suc n), front-short k (suc n / 10) j less)

pub decimal-short : (n k : ℕ) → n < 10 ^ k → 1 ≤ k → length (decimal_text n) ≤ k
decimal-short n zero h some = omega arith
decimal-short n (suc k) h some =
    let less : n / 10 < 10 ^ k = omega (arith, pow-succ' 10 k) in
    omega (arith, digits-count 19 n, front-short 19 (n / 10) k less)

power_some : (j : ℕ) → 1 ≤ 10 ^ j
power_some zero = omega arith
power_some (suc j) = omega (arith, pow-succ' 10 j, power_some j)

-- a number from 10 ^ j on has more than j digits
front-long : (k n j : ℕ) → 10 ^ j ≤ n → j < k → j < length (front k n)
front-long zero n j h less = absurd (omega arith)
front-long (suc k) zero j h less = absurd (omega (arith, power_some j))
front-long (suc k) (suc n) zero h less = omega (arith, digits-count k (suc n))
front-long (suc k) (suc n) (suc j) h less =
    let deeper : 10 ^ j ≤ suc n / 10 = omega (arith, pow-succ' 10 j) in
    omega (arith, digits-count k (suc n), front-long k (suc n / 10) j deeper (omega arith))

decimal-long : (n k : ℕ) → 10 ^ k ≤ n → k < 20 → k < length (decimal_text n)
decimal-long n zero h less = omega (arith, digits-count 19 n)
decimal-long n (suc k) h less =
    let deeper : 10 ^ k ≤ n / 10 = omega (arith, pow-succ' 10 k) in
    omega (arith, digits-count 19 n, front-long 19 (n / 10) k deeper (omega arith))

-- a number of so many places more than one: the whole part of its logarithm to base 10
pub places_more : (n k : ℕ) → 10 ^ k ≤ n → n < 10 * 10 ^ k → k < 20 → k + 1 ≡ length (decimal_text n)
places_more n k least below less =
    let most : length (decimal_text n) ≤ suc k = decimal-short n (suc k) (omega (arith, pow-succ' 10 k)) (omega arith) in
    omega (arith, decimal-long n k least less)

pub decimal-some : (n : ℕ) → 1 ≤ length (decimal_text n)
decimal-some n = omega (arith, digits-count 19 n)

-- the last digits, as many as there are, are all
one_more : (k n : ℕ) → front k (n / 10) ≡ last_digits (length (front k (n / 10))) (n / 10) →
    digits (suc k) n ≡ last_digits (length (digits (suc k) n)) n
unfolding last_digits
one_more k n e = rw (digits-count k n) (digits_last k n ∙ rw (← e))

front-all : (k n : ℕ) → front k n ≡ last_digits (length (front k n)) n
unfolding last_digits
front-all zero n = refl
front-all (suc k) zero = refl
front-all (suc k) (suc n) = one_more k (suc n) (front-all k (suc n / 10))

pub decimal-all : (n : ℕ) → decimal_text n ≡ last_digits (length (decimal_text n)) n
decimal-all n = one_more 19 n (front-all 19 (n / 10))

-- any number has at most 20 digits: `decimal_text` writes no more
front-most : (k n : ℕ) → length (front k n) ≤ k
front-most zero n = omega arith
front-most (suc k) zero = omega arith
front-most (suc k) (suc n) = omega (arith, digits-count k (suc n), front-most k (suc n / 10))

pub decimal_most : (n : ℕ) → length (decimal_text n) ≤ 20
decimal_most n = omega (arith, digits-count 19 n, front-most 19 (n / 10))
