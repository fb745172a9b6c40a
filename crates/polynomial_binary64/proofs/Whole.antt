-- The theorems of specs/Whole.antt.
use Rattle.std.proofs.Common.{zero, suc, sym, refl, arith}
use lib.Ieee.{in_signed, of_bits, of_int, to_signed}
use lib.Ieee as Ieee
use Rattle.polynomial_binary64.specs.Binary64.{whole, allowed}
use Rattle.polynomial_binary64.specs.Whole.{AllowedIsWhole, OthersRefused, ImpliedAllowed}
use Rattle.polynomial_binary64.proofs.Binary64.{allowed-small, allowed-back, allowed_of, whole_of}

pub allowed-is-whole : AllowedIsWhole
unfolding AllowedIsWhole
allowed-is-whole most m = (
  (λ c f a.
      record { number = whole c; small = allowed-small most c a; same = sym (allowed-back most c f a) }),
  (λ z h. record { passes = allowed_of most z m h; back = whole_of z (omega arith) }),
)

pub others-refused : OthersRefused
unfolding OthersRefused allowed in_signed of_bits Ieee.whole
others-refused most = (refl, refl, λ negative. refl)

pub implied-allowed : ImpliedAllowed
unfolding ImpliedAllowed allowed in_signed of_int to_signed Ieee.whole
implied-allowed zero =
    (record { allowed4 = refl; allowed3 = refl; allowed2 = refl; allowed1 = refl; allowed0 = refl }, refl)
implied-allowed (suc code) =
    (record { allowed4 = refl; allowed3 = refl; allowed2 = refl; allowed1 = refl; allowed0 = refl }, refl)
