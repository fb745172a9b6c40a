-- A page has room for what the program prints.
use Rattle.std.specs.Prelude.{List, ℕ, ◌≤◌, length}
use Rattle.program_answer.specs.Accepted.{page_length}
use Rattle.program_text.specs.Printed.{printed}

-- the theorem: a page of that length is enough for what is printed for every input. Proved in proofs/Room.antt.
unfoldable pub EnoughRoom : Type 0
EnoughRoom = (input : List ℕ) → length (printed input) ≤ page_length
