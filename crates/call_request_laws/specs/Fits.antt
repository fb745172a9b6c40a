-- What holds of every accepted request's series.
use Rattle.std.specs.Prelude.{◌≡◌, ◌*◌, ◌^◌, ◌≤◌, ◌<◌, length}
use Rattle.lists.specs.Lists.{sum, Each}
use Rattle.refusal.specs.Questions.{Pass}
use Rattle.call_request.specs.Request.{Request, series, request_check}

-- the theorem: "A figure fits 32 bits, a total 64." Proved in proofs/Fits.antt.
unfoldable pub FiguresFit : Type 0
FiguresFit = (q : Request) → request_check q ≡ Pass → Each (λ figure. figure < 2 ^ 32) (series q) × (sum (series q) < 2 ^ 64)

-- the theorem: 146,100 entries of output, 1,461 days of 100, are enough for every request. Proved in proofs/Fits.antt.
unfoldable pub LongestSeries : Type 0
LongestSeries = (q : Request) → request_check q ≡ Pass → length (series q) ≤ 146_100

-- the theorem: no total is above 10^9 Wh for each of 146,100 quarter hours. Proved in proofs/Fits.antt.
unfoldable pub LargestTotal : Type 0
LargestTotal = (q : Request) → request_check q ≡ Pass → sum (series q) ≤ 146_100 * 10 ^ 9
