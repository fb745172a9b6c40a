-- An allowed polynomial's numbers may be cast to i64.
use Rattle.std.proofs.Common.{◌≡◌, T, w64, to_z, of_z}
use lib.Ieee.{Float, binary64, in_signed}
use lib.Ieee.Casts.{to_signed_in}
use mir.ValLaws.{to_z-of_z}
use Rattle.polynomial.specs.Polynomial.{limit}
use Rattle.polynomial_binary64.specs.declared.Polynomial.{Polynomial}
use Rattle.polynomial_binary64.specs.Binary64.{whole, Allowed}
use Rattle.polynomial_binary64.proofs.Binary64.{allowed-signed}

-- the machine's i64 holds what the cast makes
pub kept : (c : Float) → to_z w64 (of_z w64 (whole c)) ≡ whole c
kept c = to_z-of_z w64 (whole c) (record { sfits = to_signed_in 63 c })

-- what each cast asks
pub record Casts (p : Polynomial) : Type 0 where
  pub cast4 : T (in_signed binary64 63 p.t4)
  pub cast3 : T (in_signed binary64 63 p.t3)
  pub cast2 : T (in_signed binary64 63 p.t2)
  pub cast1 : T (in_signed binary64 63 p.t1)
  pub cast0 : T (in_signed binary64 63 p.t0)

pub casts : {p : Polynomial} → Allowed p → Casts p
casts {p} a =
    record {
      cast4 = allowed-signed (limit 0) p.t4 a.allowed4;
      cast3 = allowed-signed (limit 1) p.t3 a.allowed3;
      cast2 = allowed-signed (limit 2) p.t2 a.allowed2;
      cast1 = allowed-signed (limit 3) p.t1 a.allowed1;
      cast0 = allowed-signed (limit 4) p.t0 a.allowed0;
    }
