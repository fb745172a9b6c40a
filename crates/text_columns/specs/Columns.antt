-- Document 02, (e): fields of a fixed width. What the text leaves free is filled with spaces.
use Rattle.std.specs.Prelude.{List, ◌++◌, ℕ, ◌-◌, length, replicate}
use Rattle.text.specs.Text.{space, decimal_text}

abbrev pub spaces : ℕ → List ℕ
spaces n = replicate n space

-- "right-aligned", a number "written as in the program": in decimal
unfoldable pub right_aligned : ℕ → ℕ → List ℕ
right_aligned width n = spaces (width - length (decimal_text n)) ++ decimal_text n

-- "left-aligned"
abbrev pub left_aligned : ℕ → List ℕ → List ℕ
left_aligned width word = word ++ spaces (width - length word)
