-- The bit patterns of NaNs are, the sign aside, those above infinity's.
use Rattle.std.proofs.Common.{◌≡◌, ℕ, ◌%◌, ◌<◌, ◌≤◌, Bool, false, not, T, sym, ◌∙◌, subst, le-ltb, lt-ltb}
use lib.Ieee.{binary64, nan_bits, of_bits}
use lib.Ieee.Bits.{nan_bits_is, nan_bits_above}
use Rattle.polynomial_binary64.specs.Binary64.{allowed}
use Rattle.polynomial_binary64.proofs.Binary64.{allowed-signed, not-allowed}
use Rattle.polynomial_binary64.proofs.Range.{number-whole}

-- the pattern of infinity
abbrev pub infinity : ℕ
infinity = 0x7ff0_0000_0000_0000

abbrev pub unsigned : ℕ → ℕ
unsigned bits = bits % 0x8000_0000_0000_0000

pub number : (bits : ℕ) → unsigned bits ≤ infinity → T (not (nan_bits binary64 bits))
number bits h = rw (nan_bits_above binary64 bits) (rw (le-ltb infinity (unsigned bits) h) tt)

pub nan-refused : (most bits : ℕ) → infinity < unsigned bits → allowed most (of_bits binary64 bits) ≡ false
nan-refused most bits h =
    not-allowed most (of_bits binary64 bits)
    (λ yes.
    subst (λ (test : Bool). T (not test))
    (sym (nan_bits_is binary64 bits) ∙ nan_bits_above binary64 bits ∙ lt-ltb infinity (unsigned bits) h)
    (number-whole (of_bits binary64 bits) (allowed-signed most (of_bits binary64 bits) yes)))
