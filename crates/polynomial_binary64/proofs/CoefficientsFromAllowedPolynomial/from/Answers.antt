-- `CoefficientsFromAllowedPolynomial::from` meets its contract: an allowed number may be cast, and the machine keeps an i64.
use Rattle.polynomial.specs.Polynomial.{coefficients}
use Rattle.polynomial_binary64.proofs.Casts.{casts, kept}
use Rattle.polynomial_binary64.proofs.CoefficientsFromAllowedPolynomial.from.Goals as goal

pub float_to_int-result : goal.float_to_int-result
float_to_int-result c = search (casts c.args.p.allowed)

pub float_to_int-result-2 : goal.float_to_int-result-2
float_to_int-result-2 c = search (casts c.args.p.allowed)

pub float_to_int-result-3 : goal.float_to_int-result-3
float_to_int-result-3 c = search (casts c.args.p.allowed)

pub float_to_int-result-4 : goal.float_to_int-result-4
float_to_int-result-4 c = search (casts c.args.p.allowed)

pub float_to_int-result-5 : goal.float_to_int-result-5
float_to_int-result-5 c = search (casts c.args.p.allowed)

pub returns : goal.returns
returns c =
    let p = c.args.p.polynomial in
    λ i. coefficients (kept p.t4 i) (kept p.t3 i) (kept p.t2 i) (kept p.t1 i) (kept p.t0 i)
