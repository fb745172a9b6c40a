-- Document 02, (e), "as read back from the page itself": a reader of lines, which knows bytes and the widths of the fields alone. `w` is
-- the width of the day type. Lines are counted from 0.
use Rattle.std.specs.Prelude.{◌≡◌, ◌&&◌, cond, List, [], ◌∷◌, ◌++◌, ℕ, ◌+◌, ◌-◌, ◌*◌, leb, ltb, eqb, length, take, drop, get_or}

-- what is read: a number, or none where the bytes are not those of one
pub data Read : Type 0 where
  number : ℕ → Read
  none : Read

-- decimal digits, 48 to 57, behind the number that those in front of them make
unfoldable pub read_digits : ℕ → List ℕ → Read
read_digits n [] = number n
read_digits n (byte ∷ bytes) = cond (leb 48 byte && leb byte 57) (read_digits (n * 10 + (byte - 48)) bytes) none

-- a number "with no leading zeros": none where a zero, 48, stands in front of others
unfoldable pub read_number : List ℕ → Read
read_number bytes = cond (eqb (get_or bytes 0 0) 48 && ltb 1 (length bytes)) none (read_digits 0 bytes)

-- a number behind any spaces, 32
unfoldable pub read_right_aligned : List ℕ → Read
read_right_aligned [] = none
read_right_aligned (byte ∷ bytes) = cond (eqb byte 32) (read_right_aligned bytes) (read_number (byte ∷ bytes))

-- a date yyyy-mm-dd, by its number yyyymmdd: the digits around the hyphens, 45
unfoldable pub read_date : List ℕ → Read
read_date field =
    cond (eqb (get_or field 4 0) 45 && eqb (get_or field 7 0) 45)
    (read_digits 0 (take 4 field ++ (take 2 (drop 5 field) ++ take 2 (drop 8 field))))
    none

-- a line's bytes: 10 of the date, w of the day type, 6 of the count, 16 of the Wh, three spaces and LF
unfoldable pub line_on : ℕ → List ℕ → ℕ → List ℕ
line_on w page i = take (36 + w) (drop ((36 + w) * i) page)

-- the bytes between and behind its fields: three spaces, and LF, 10
pub record Parted (w : ℕ) (page : List ℕ) (i : ℕ) : Type 0 where
  pub first : get_or (line_on w page i) 10 0 ≡ 32
  pub second : get_or (line_on w page i) (11 + w) 0 ≡ 32
  pub third : get_or (line_on w page i) (18 + w) 0 ≡ 32
  pub last : get_or (line_on w page i) (35 + w) 0 ≡ 10

-- its first field, and its day type
abbrev pub first_on : ℕ → List ℕ → ℕ → List ℕ
first_on w page i = take 10 (line_on w page i)

abbrev pub day_type_on : ℕ → List ℕ → ℕ → List ℕ
day_type_on w page i = take w (drop 11 (line_on w page i))

-- its date, count and Wh
abbrev pub date_on : ℕ → List ℕ → ℕ → Read
date_on w page i = read_date (first_on w page i)

abbrev pub count_on : ℕ → List ℕ → ℕ → Read
count_on w page i = read_right_aligned (take 6 (drop (12 + w) (line_on w page i)))

abbrev pub watt_hours_on : ℕ → List ℕ → ℕ → Read
watt_hours_on w page i = read_right_aligned (take 16 (drop (19 + w) (line_on w page i)))

-- the sum of what was read, where all of it are numbers
abbrev pub plus : Read → Read → Read
plus (number a) (number b) = number (a + b)
plus (number a) none = none
plus none b = none

unfoldable pub added : List Read → Read
added [] = number 0
added (first ∷ rest) = plus first (added rest)
