-- What codes and values have that passed question 3. No definition of document 01.
use Rattle.std.specs.Prelude.{◌≡◌, List, ℕ, ◌*◌, ◌≤◌, length}

pub record Amounts (codes values : List ℕ) : Type 0 where
  pub some : 1 ≤ length codes
  pub most : length codes ≤ 11
  pub each : length values ≡ length codes * 864
