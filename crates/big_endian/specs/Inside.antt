-- What inner functions say of a part of a file. No definition of document 01.
use Rattle.std.specs.Prelude.{List, ℕ, ◌/◌, length}
use Rattle.big_endian.specs.BigEndian.{words_from}

-- all the values of a part of a file
abbrev pub words_of : List ℕ → List ℕ
words_of part = words_from part (length part / 2) 0
