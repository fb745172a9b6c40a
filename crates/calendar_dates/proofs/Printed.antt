-- What `{:04}` and `{:02}` write: the number, with zeros in front of it.
use mathlib.Core.Path.{◌≡◌}
use mathlib.Core.Bool.{false}
use mathlib.Core.List.{[], append-nil}
use lib.ListN.{length}
use Prim.Native.Nat.{ℕ, ◌-◌, ◌^◌}
use native.Mathlib.Omega.{arith}
use Rattle.std.specs.Prelude.{decimal}
use Rattle.std.specs.Fmt.{char_count, padded_integral, format_spec}
use Rattle.calendar_dates.specs.Dates.{with_zeros}

pub zeros : (digits n : ℕ) → padded_integral (format_spec 32 0 4 digits (2 ^ 64 - 1)) false [] (decimal n) ≡ with_zeros digits n
unfolding padded_integral char_count
zeros digits n =
    let short : digits - length (decimal n) - 0 - 0 ≡ digits - length (decimal n) = omega arith in
    rw (append-nil (decimal n), short)
