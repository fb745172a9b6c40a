-- Document 01, "The profile file": what writing makes of codes and values.
use Rattle.std.specs.Prelude.{List, [], ◌∷◌, ◌++◌, ℕ, length, take, drop}
use Rattle.big_endian.specs.BigEndian.{bytes_of}
use Rattle.file_layout.specs.Header.{mark}

-- a profile for each code, with the next n values
unfoldable pub profiles_of : ℕ → List ℕ → List ℕ → List ℕ
profiles_of n [] values = []
profiles_of n (code ∷ codes) values = code ∷ (bytes_of (take n values) ++ profiles_of n codes (drop n values))

-- the file: mark, version 1, count, profiles of 864 values each
unfoldable pub written : List ℕ → List ℕ → List ℕ
written codes values = mark ++ (bytes_of (1 ∷ []) ++ (length codes ∷ profiles_of 864 codes values))
