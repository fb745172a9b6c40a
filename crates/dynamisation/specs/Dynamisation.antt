-- Document 01, "Dynamisation": the factor of a day and the power that it makes of a profile's value.
use Rattle.std.specs.Prelude.{ℕ, zero, suc, ◌+◌, ◌*◌, ◌/◌, ◌^◌, ℤ, pos, ◌+ℤ◌, ◌-ℤ◌, ◌*ℤ◌, neg_ℤ, nat_abs}

-- "For H0 the factor in units of 10^-12 is the signed sum X": t is the day of the year, 1 to 366
unfoldable pub household_x : ℕ → ℤ
household_x t =
    neg_ℤ (pos 392) *ℤ pos (t ^ 4) +ℤ pos 320_000 *ℤ pos (t ^ 3) -ℤ pos 70_200_000 *ℤ pos (t ^ 2)
    +ℤ pos 2_100_000_000 *ℤ pos t
    +ℤ pos 1_240_000_000_000

-- X of a group by its code: "For H0", code 0, the sum above; "for G and L, X is 10^12"
unfoldable pub X : ℕ → ℕ → ℤ
X zero t = household_x t
X (suc group) t = pos (10 ^ 12)

-- n / d rounded half up, for an even d
abbrev pub half_up : ℕ → ℕ → ℕ
half_up n d = (n + d / 2) / d

-- "F is X / 10^8 rounded half up (four decimals)"; X is above 0 on all 366 days, so nat_abs is X itself
unfoldable pub F : ℕ → ℕ → ℕ
F group t = half_up (nat_abs (X group t)) (10 ^ 8)

-- "Power Q is P × F / 10,000 rounded half up, in tenths of a watt"
unfoldable pub Q : ℕ → ℕ → ℕ
Q p f = half_up (p * f) 10_000
