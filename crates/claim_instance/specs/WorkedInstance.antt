-- Document 01's listing cut in two, with a refused call between: the assumptions of demand 3 can be met, and what comes of it.
use Rattle.std.specs.Prelude.{Ok, Err}
use Rattle.std.specs.Prelude.{◌≡◌, List, [], ◌∷◌, ◌++◌, ℕ, zero, suc}
use Rattle.lists.specs.Lists.{Each}
use Rattle.refusal.specs.declared.Refusal.TheVariants.{BadCarry}
use Rattle.file_layout.specs.Header.{mark}
use Rattle.call_request.specs.Request.{Request, request}
use Rattle.call_expansion.specs.Answered.{reported}
use Rattle.call_expand.specs.Expanding.{expansion, output_after}
use Rattle.claim_successive.specs.SuccessiveCalls.{Call, ByContract, accepted, Common, Successive, SameAsWhole}

-- a list n times over
abbrev pub times : ℕ → List ℕ → List ℕ
times zero xs = []
times (suc n) xs = xs ++ times n xs

-- "a file whose only profile is G0 with every value 1001": 1001 is 3 × 256 + 233
abbrev pub listing_file : List ℕ
listing_file = mark ++ (0 ∷ 1 ∷ 1 ∷ 1 ∷ times 864 (3 ∷ 233 ∷ []))

-- the call that a request makes by its contract, as it is reported
abbrev pub call_for : Request → Call
call_for q = record { given = q; report = reported (expansion q); after = output_after q }

-- "group 1, 20000325, 20000326, A = 1000, no holidays": a day each, and between them a call with a carry out of range
abbrev pub saturday : Request
saturday = request listing_file 1 20000325 20000325 [] 1_000 0 (times 96 (7 ∷ []))

abbrev pub between : Request
between = request listing_file 1 20000326 20000326 [] 1_000 40_000 (times 92 (7 ∷ []))

abbrev pub sunday : Request
sunday = request listing_file 1 20000326 20000326 [] 1_000 16_000 (times 92 (7 ∷ []))

abbrev pub whole : Request
whole = request listing_file 1 20000325 20000326 [] 1_000 0 (times 188 (7 ∷ []))

abbrev pub calls : List Call
calls = call_for saturday ∷ call_for between ∷ call_for sunday ∷ []

abbrev pub common : Common
common = record { file = listing_file; group = 1; holidays = []; yearly = 1_000 }

-- Proved in proofs/WorkedInstance.antt.
pub record WorkedInstance : Type 0 where
  -- "2000-03-25 T2 96 2402", "2000-03-26 T3 92 2302"
  pub on_saturday : expansion saturday ≡ Ok (record { count = 96; total = 2_402; carry = 16_000 })
  pub refused_between : expansion between ≡ Err BadCarry
  pub on_sunday : expansion sunday ≡ Ok (record { count = 92; total = 2_302; carry = 28_000 })
  -- "total 2 188 4704 28000"
  pub of_both : expansion whole ≡ Ok (record { count = 188; total = 4_704; carry = 28_000 })
  pub by_contract : Each ByContract calls
  pub successive : Successive common 0 (accepted calls)
  pub same_as_whole : SameAsWhole 0 calls (call_for whole)
