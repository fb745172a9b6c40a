-- Document 01, "The program": "date as yyyy-mm-dd", "Figures are printed in decimal with no leading zeros, fields are split by one
-- space; lines end in LF." Texts are lists of ASCII codes.
use Rattle.std.specs.Prelude.{cond, List, [], ◌∷◌, ◌++◌, ℕ, zero, suc, ◌+◌, ◌/◌, ◌%◌, ltb}
use Rattle.calendar_dates.specs.declared.Date.{Date}

abbrev pub space : ℕ
space = 32

abbrev pub hyphen : ℕ
hyphen = 45

abbrev pub line_feed : ℕ
line_feed = 10

-- the digit of a number below 10
abbrev pub digit : ℕ → ℕ
digit n = 48 + n

-- "in decimal with no leading zeros": the last digits of a number, at most so many; what stands in front of them is left out
unfoldable pub digits : ℕ → ℕ → List ℕ
digits zero n = []
digits (suc places) n = cond (ltb n 10) (digit n ∷ []) (digits places (n / 10) ++ (digit (n % 10) ∷ []))

-- 20 places hold every 64-bit number, and no number that is printed is larger
abbrev pub decimal_text : ℕ → List ℕ
decimal_text n = digits 20 n

-- two digits, with a zero in front where the number is below 10
abbrev pub two_digits : ℕ → List ℕ
two_digits n = digit (n / 10) ∷ digit (n % 10) ∷ []

-- "date as yyyy-mm-dd"
abbrev pub date_text : Date → List ℕ
date_text d =
    two_digits (d.year / 100) ++ (two_digits (d.year % 100) ++ (hyphen ∷ (two_digits d.month ++ (hyphen ∷ two_digits d.day))))
