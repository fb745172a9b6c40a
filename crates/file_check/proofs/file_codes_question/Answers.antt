-- `file_check::file_codes_question` meets its contract: the chain gives the codes of the file, each of which stands in it.
use Rattle.std.proofs.Common.{◌≡◌, ◌∙◌, ap, ℕ, ◌+◌, ◌*◌, ◌≤◌, arith, rules}
use borrow.Author.Tests.{tests}
use Rattle.std.specs.declared.ops.Range.{Range}
use Rattle.std.proofs.lemmas.Iterator.{serves_from_Range, YieldsList-from_map, YieldsList-from_range}
use Rattle.file_layout.specs.Header.{header_length, profile_length}
use Rattle.big_endian.specs.BigEndian.{byte_at}
use Rattle.file_check.proofs.Check.{profile-inside}
use Rattle.file_check.proofs.Asked.{yields-all, codes-asked}
use Rattle.file_check.proofs.file_codes_question.Goals as goal

pub codes_question-requires-clause-can : goal.codes_question-requires-clause-can
codes_question-requires-clause-can c =
    let layout = c.layout-layout.result in
    let laid = rw (← c.layout-layout.ensures.0) at c.args.file.laid in
    let few : c.map-codes.result.iter.end ≤ layout.count = omega (arith, ap (λ (ks : Range ℕ). ks.end) c.map-codes.ensures.source) in (
      tt,
      serves_from_Range (λ x q k. search (rules, tests)) (λ x low high.
          let inside = profile-inside layout c.args.file.bytes.now laid x (omega (arith, few)) in
          search (rules, inside)),
    )

pub returns : goal.returns
returns c =
    let layout = c.layout-layout.result in
    let file = c.args.file.bytes.now in
    let n = c.map-codes.result.iter.end in
    let all : n ≡ layout.count = omega (arith, ap (λ (ks : Range ℕ). ks.end) c.map-codes.ensures.source) in
    let asked = c.codes_question.ensures _
    (yields-all (YieldsList-from_map _ (λ k. byte_at file (header_length + k * profile_length layout)) (YieldsList-from_range 0 n n (rw c.map-codes.ensures.source) (omega arith)) c.map-codes.ensures.closure (λ x r q k. search rules))) in
    let asked = rw c.profile_length.ensures at asked in
    let sound = (rw (← c.layout-layout.ensures.0) at c.args.file.laid).sound in
    let first : header_length + 0 * profile_length layout ≡ header_length = omega arith in
    let told = asked ∙ (rw first at (codes-asked layout file n 0 sound)) in
    rw (← c.layout-layout.ensures.0) (rw all at told)
