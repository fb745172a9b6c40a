-- What the functions that put text on a page promise. No definition of document 01.
use Rattle.std.specs.Prelude.{◌≡◌, List, [], ◌∷◌, ◌++◌, ℕ, zero, suc, ◌+◌, ◌/◌, ◌%◌, ◌≤◌, length, take, drop}
use Rattle.text.specs.declared.Page.{Page}
use Rattle.text.specs.Text.{digit}

-- a text was put into a page: what the page then holds, the place behind it, and that it is the same lent page, as long as before
pub record Put (text : List ℕ) (before after : Page) : Type 0 where
  pub bytes : after.bytes.now ≡ take before.at before.bytes.now ++ (text ++ drop (before.at + length text) before.bytes.now)
  pub behind : after.at ≡ before.at + length text
  pub kept : length after.bytes.now ≡ length before.bytes.now
  pub same_page : after.bytes.ghost_name ≡ before.bytes.ghost_name

-- so many more bytes have room on a page
abbrev pub Room : ℕ → Page → Type 0
Room n page = page.at + n ≤ length page.bytes.now

-- the last digits of a number, as many as `places` says
unfoldable pub last_digits : ℕ → ℕ → List ℕ
last_digits zero n = []
last_digits (suc places) n = last_digits places (n / 10) ++ (digit (n % 10) ∷ [])
