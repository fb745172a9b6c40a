-- What is written is read: a number in decimal, right-aligned, and a date. Assumes nothing.
use mathlib.Core.Path.{◌≡◌, refl, ◌∙◌, ap}
use mathlib.Core.Bool.{Bool, true, false, ◌&&◌}
use mathlib.Core.Logic.{⊎_elim}
use mathlib.Core.List.{List, [], ◌∷◌, ◌++◌, append_assoc}
use Prim.Native.Nat.{ℕ, zero, suc, ◌+◌, ◌-◌, ◌*◌, ◌/◌, ◌%◌, ◌^◌, ◌≤◌, ◌<◌}
use native.Mathlib.Omega.{arith}
use native.Mathlib.Nat.{eq-zero-or-pos, pow-succ'}
use lib.Dec.{ltb, eqb}
use lib.ListN.{length, get_or}
use borrow.Author.Tests.{le-leb, ne_eqb}
use Rattle.lists.specs.Lists.{Each}
use Rattle.lists.proofs.Members.{each_append}
use Rattle.calendar_dates.specs.declared.Date.{Date}
use Rattle.calendar_dates.specs.Dates.{is_date, number_of}
use Rattle.calendar_dates.proofs.Dates.{parts}
use Rattle.text.specs.Text.{digit, decimal_text, two_digits, date_text}
use Rattle.text.proofs.Text.{front, front-none, digits_last, decimal-some}
use Rattle.text_columns.specs.Columns.{spaces, right_aligned}
use Rattle.claim_page.specs.ReadBack.{number, read_digits, read_number, read_right_aligned, read_date}

-- a digit
read-digit : (n x : ℕ) (bytes : List ℕ) → x < 10 → read_digits n (digit x ∷ bytes) ≡ read_digits (n * 10 + x) bytes
unfolding read_digits
read-digit n x bytes h =
    let value : 48 + x - 48 ≡ x = omega arith in
    rw (le-leb 48 (48 + x) (omega arith), le-leb (48 + x) 57 (omega arith), value)

-- none
read_none : (n : ℕ) → read_digits n [] ≡ number n
unfolding read_digits
read_none n = refl

-- the digits in front of others
read-front : (k n : ℕ) (rest : List ℕ) → n < 10 ^ k → read_digits 0 (front k n ++ rest) ≡ read_digits n rest
read-front zero n rest h = let e : n ≡ 0 = omega arith in rw e
read-front (suc k) zero rest h = refl
read-front (suc k) (suc n) rest h =
    let last = suc n % 10 in
    let whole : suc n / 10 * 10 + last ≡ suc n = omega arith in
    ap (λ (all : List ℕ). read_digits 0 (all ++ rest)) (digits_last k (suc n))
    ∙ ap (read_digits 0) (append_assoc (front k (suc n / 10)) (digit last ∷ []) rest)
    ∙ read-front k (suc n / 10) (digit last ∷ rest) (omega (arith, pow-succ' 10 k))
    ∙ read-digit (suc n / 10) last rest (omega arith)
    ∙ ap (λ (m : ℕ). read_digits m rest) whole

-- all of them
read-decimal : (n : ℕ) → n < 10 ^ 20 → read_digits 0 (decimal_text n) ≡ number n
read-decimal n h =
    let last = n % 10 in
    let whole : n / 10 * 10 + last ≡ n = omega arith in
    ap (read_digits 0) (digits_last 19 n)
    ∙ read-front 19 (n / 10) (digit last ∷ []) (omega arith)
    ∙ read-digit (n / 10) last [] (omega arith)
    ∙ read_none (n / 10 * 10 + last)
    ∙ ap number whole

-- no digit is a space
abbrev Digits : List ℕ → Type 0
Digits bytes = Each (λ byte. 48 ≤ byte) bytes

front-digits : (k n : ℕ) → Digits (front k n)
front-digits zero n = tt
front-digits (suc k) zero = tt
front-digits (suc k) (suc n) =
    rw (digits_last k (suc n)) (each_append _ (front k (suc n / 10)) (digit (suc n % 10) ∷ []) (front-digits k (suc n / 10)) (omega arith, tt))

decimal-digits : (n : ℕ) → Digits (decimal_text n)
decimal-digits n = rw (digits_last 19 n) (each_append _ (front 19 (n / 10)) (digit (n % 10) ∷ []) (front-digits 19 (n / 10)) (omega arith, tt))

digits-alone : (bytes : List ℕ) → 1 ≤ length bytes → Digits bytes → read_right_aligned bytes ≡ read_number bytes
unfolding read_right_aligned
digits-alone [] some all = absurd (omega arith)
digits-alone (byte ∷ bytes) some all = rw (ne_eqb byte 32 (λ e. omega (arith, all.0)))

nothing-in-front : (k n : ℕ) → n ≡ 0 → front k n ≡ []
nothing-in-front k n e = ap (front k) e ∙ front-none k

-- the first digit of a number is no zero
front-first : (k n : ℕ) (rest : List ℕ) → 0 < n → n < 10 ^ k → 49 ≤ get_or (front k n ++ rest) 0 0
front-first zero n rest some h = absurd (omega arith)
front-first (suc k) zero rest some h = absurd (omega arith)
front-first (suc k) (suc n) rest some h =
    let last = suc n % 10 in
    let same : front (suc k) (suc n) ++ rest ≡ front k (suc n / 10) ++ (digit last ∷ rest) =
    ap (λ (all : List ℕ). all ++ rest) (digits_last k (suc n)) ∙ append_assoc (front k (suc n / 10)) (digit last ∷ []) rest in
    rw same
    (⊎_elim
    (λ (none : suc n / 10 ≡ 0). rw (nothing-in-front k (suc n / 10) none) (omega arith))
    (λ more. front-first k (suc n / 10) (digit last ∷ rest) more (omega (arith, pow-succ' 10 k)))
    (eq-zero-or-pos (suc n / 10)))

and_no : (b : Bool) → (b && false) ≡ false
and_no true = refl
and_no false = refl

-- so none stands in front of others
no-leading-zero : (n : ℕ) → n < 10 ^ 20 → (eqb (get_or (decimal_text n) 0 0) 48 && ltb 1 (length (decimal_text n))) ≡ false
no-leading-zero n h =
    rw (digits_last 19 n)
    (⊎_elim
    (λ (none : n / 10 ≡ 0). rw (nothing-in-front 19 (n / 10) none) (and_no (eqb (digit (n % 10)) 48)))
    (λ more. rw (ne_eqb (get_or (front 19 (n / 10) ++ (digit (n % 10) ∷ [])) 0 0) 48 (λ e. omega (arith, front-first 19 (n / 10) (digit (n % 10) ∷ []) more (omega arith)))))
    (eq-zero-or-pos (n / 10)))

number-alone : (n : ℕ) → n < 10 ^ 20 → read_number (decimal_text n) ≡ read_digits 0 (decimal_text n)
unfolding read_number
number-alone n h = rw (no-leading-zero n h)

behind-spaces : (n : ℕ) (rest : List ℕ) → read_right_aligned (spaces n ++ rest) ≡ read_right_aligned rest
unfolding read_right_aligned
behind-spaces zero rest = refl
behind-spaces (suc n) rest = behind-spaces n rest

pub read_right : (width n : ℕ) → n < 10 ^ 20 → read_right_aligned (right_aligned width n) ≡ number n
unfolding right_aligned
read_right width n h =
    behind-spaces (width - length (decimal_text n)) (decimal_text n)
    ∙ digits-alone (decimal_text n) (decimal-some n) (decimal-digits n)
    ∙ number-alone n h
    ∙ read-decimal n h

-- a date, by twos of digits
read-two : (n x : ℕ) (rest : List ℕ) → x < 100 → read_digits n (two_digits x ++ rest) ≡ read_digits (n * 100 + x) rest
read-two n x rest h =
    let whole : (n * 10 + x / 10) * 10 + x % 10 ≡ n * 100 + x = omega arith in
    read-digit n (x / 10) (digit (x % 10) ∷ rest) (omega arith)
    ∙ read-digit (n * 10 + x / 10) (x % 10) rest (omega arith)
    ∙ ap (λ (m : ℕ). read_digits m rest) whole

pub read-date : (d : Date) → is_date d ≡ true → read_date (date_text d) ≡ number (number_of d)
unfolding read_date
read-date d h =
    let p = parts d h in
    let high = d.year / 100 in
    let low = d.year % 100 in
    let m = d.month in
    let t = d.day in
    let whole : (((0 * 100 + high) * 100 + low) * 100 + m) * 100 + t ≡ number_of d = omega arith in
    read-two 0 high (two_digits low ++ (two_digits m ++ two_digits t)) (omega arith)
    ∙ read-two (0 * 100 + high) low (two_digits m ++ two_digits t) (omega arith)
    ∙ read-two ((0 * 100 + high) * 100 + low) m (two_digits t) (omega arith)
    ∙ read-two (((0 * 100 + high) * 100 + low) * 100 + m) t [] (omega arith)
    ∙ read_none _
    ∙ ap number whole
