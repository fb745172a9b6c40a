-- What the inner functions over a file require of it and its layout, and their callers show. No definition of document 01.
use Rattle.std.specs.Prelude.{◌≡◌, List, ℕ, ◌+◌, ◌*◌, ◌≤◌, ◌<◌, length, take, drop}
use Rattle.std.specs.Borrow.{Bor}
use Rattle.file_layout.specs.declared.Layout.{Layout}
use Rattle.file_layout.specs.Header.{layout_of, profile_length, file_length}

-- each profile has its code, and few enough bytes for those of a file to be counted in a machine number
pub record Sound (layout : Layout) : Type 0 where
  pub coded : 1 ≤ layout.before
  pub small : profile_length layout < 65_536

-- the file has just the bytes that its layout says
pub record LaidOut (layout : Layout) (file : List ℕ) : Type 0 where
  pub sound : Sound layout
  pub whole : length file ≡ file_length layout

-- the value bytes of the profile whose code stands at `at`
abbrev pub value_bytes : List ℕ → ℕ → List ℕ
value_bytes file at = take ((layout_of file).entries * 2) (drop (at + (layout_of file).before) file)

-- the same as that part of the file's own memory
pub record ValueBytesOf (file : Bor (List ℕ)) (at : ℕ) (part : Bor (List ℕ)) : Type 0 where
  pub bytes : part.now ≡ value_bytes file.now at
  pub start : part.ref_ptr ≡ (file.ref_ptr.0, file.ref_ptr.1 + (at + (layout_of file.now).before))
