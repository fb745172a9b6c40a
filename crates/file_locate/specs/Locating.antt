-- Document 01, "The profile file": what locating answers, accepted and refused.
use Rattle.std.specs.Prelude.{◌≡◌, List, [], ℕ, ◌+◌, ◌*◌, length, take, drop}
use Rattle.std.specs.Borrow.{Bor}
use Rattle.refusal.specs.Questions.{on_pass}
use Rattle.file_layout.specs.Header.{layout_of}
use Rattle.file_group.specs.Group.{check, values_offset}
use Rattle.file_locate.specs.declared.LocatedPart.{LocatedPart}

-- Locating: "the group's own 1,728 value bytes as that part of the lent file; a refusal returns the part of length zero at its
-- start": where the part begins, and its bytes
abbrev pub located_at : List ℕ → ℕ → ℕ
located_at file group = on_pass (check file group) (values_offset file group) 0

abbrev pub located : List ℕ → ℕ → List ℕ
located file group = on_pass (check file group) (take ((layout_of file).entries * 2) (drop (located_at file group) file)) []

-- the returned part is the caller's own memory, and no copy
pub record Located (file : Bor (List ℕ)) (group : ℕ) (part : Bor (List ℕ)) : Type 0 where
  pub bytes : part.now ≡ located file.now group
  pub start : part.ref_ptr ≡ (file.ref_ptr.0, file.ref_ptr.1 + located_at file.now group)

-- the same part by its offset and its length
abbrev pub located_part : List ℕ → ℕ → LocatedPart
located_part file group = record { offset = located_at file group; length = length (located file group) }
