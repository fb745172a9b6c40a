-- What the functions of this crate require and promise. No definition of document 01.
use Rattle.std.specs.Prelude.{List, ℕ, ◌≤◌, min, length}
use Rattle.big_endian.specs.BigEndian.{byte_at, long_at}
use Rattle.program_input.specs.declared.input.Head.{Head}
use Rattle.program_input.specs.Input.{head_length, list_length, file_start}

-- the numbers at the start of an input
abbrev pub head_of : List ℕ → Head
head_of input =
    record {
      group = byte_at input 0;
      first = long_at input 1;
      last = long_at input 5;
      yearly = long_at input 9;
      listed = list_length input;
    }

-- an input that question 13 passes: not too long, its head and its list complete
pub record CompleteInput (input : List ℕ) : Type 0 where
  pub small : length input ≤ 65_536
  pub head : head_length ≤ length input
  pub list : file_start input ≤ length input

-- the entries of a list that question 9 can ask about: entry index 400 is at fault whatever it holds
abbrev pub asked_entries : ℕ → ℕ
asked_entries listed = min listed 401
