-- `file_group::find` meets its contract: a code that is found stands in the file, and where none is found the search ends at its end.
use Rattle.std.proofs.Common.{◌≡◌, rules, sym, ◌∙◌, ap, length, ℕ, ◌+◌, ◌≤◌, ◌<◌, List, Option, Some, None, arith}
use borrow.Author.Tests.{tests}
use Rattle.std.specs.Prelude.{IfOk}
use Rattle.std.specs.declared.ops.Range.{Range}
use Rattle.std.specs.List.{find}
use Rattle.std.specs.Option.{MatchOption, ok_or}
use Rattle.std.proofs.lemmas.Iterator.{YieldsList-from_map, YieldsList-from_range}
use Rattle.std.proofs.lemmas.Iterator.Adapters.{serves_from_places, option_map_id}
use Rattle.std.proofs.lemmas.Iterator.Search.{find_from_yields_List}
use Rattle.std.proofs.lemmas.List.FromFn.{length-map-range_with_len, get_or-map-range_with_len}
use Rattle.refusal.specs.declared.Refusal.TheVariants.{NoGroup}
use Rattle.refusal.specs.Questions.{answered}
use Rattle.file_layout.specs.Header.{header_length, layout_of, profile_length}
use Rattle.file_layout.specs.Inside.{LaidOut}
use Rattle.file_check.proofs.Check.{profile_at, profile-inside}
use Rattle.file_group.specs.Group.{group_offset, group_question}
use Rattle.file_group.proofs.Group.{is_groups, places, found-among, group-there, group-missing, answers_at, answers-refused}
use Rattle.file_group.proofs.find.Goals as goal

pub find-requires-clause-callable : goal.find-requires-clause-callable
find-requires-clause-callable c =
    let layout = c.layout-layout.result in
    let laid = rw (← c.layout-layout.ensures.0) at c.args.file.laid in
    let n = c.map.result.iter.end in
    let few : n ≤ layout.count = omega (arith, ap (λ (ks : Range ℕ). ks.end) c.map.ensures.source) in
    serves_from_places
    (YieldsList-from_map _ (profile_at layout) (YieldsList-from_range 0 n n (rw c.map.ensures.source) (omega arith)) c.map.ensures.closure (λ x r q k. search rules))
    (λ x q r. search (rules, tests))
    (λ x k h e.
    let below : k < n = omega (arith, length-map-range_with_len (profile_at layout) 0 n) in
    let here : x ≡ profile_at layout k = e ∙ get_or-map-range_with_len (profile_at layout) 0 n k k x below (omega arith) in
    let inside = profile-inside layout c.args.file.bytes.now laid k (omega arith) in
    λ y ey. omega (arith, inside, here, ey))

-- what the search comes to, of all places in the file
module _ (file : List ℕ) (group place : ℕ) (laid : LaidOut (layout_of file) file) where
  answered_of : (o : Option ℕ) →
      MatchOption o (group_offset file group ≡ length file)
      (λ at. (at ≡ group_offset file group) × (at + profile_length (layout_of file) ≤ length file)) →
      (ok_or o (NoGroup place) ≡ answered (group_question file group place) (group_offset file group))
      × IfOk (ok_or o (NoGroup place)) (λ at. at + profile_length (layout_of file) ≤ length file)
  answered_of None missing = (answers-refused _ (group-missing file group place (omega arith)), tt)
  answered_of (Some at) found =
      (answers_at (group-there file group place (omega (arith, found.0, found.1, laid.sound.coded))) found.0, found.1)

  searched : (o : Option ℕ) → o ≡ find (is_groups file group) (places (layout_of file) 0 (layout_of file).count) →
      (ok_or o (NoGroup place) ≡ answered (group_question file group place) (group_offset file group))
      × IfOk (ok_or o (NoGroup place)) (λ at. at + profile_length (layout_of file) ≤ length file)
  searched o e =
      let first : profile_at (layout_of file) 0 ≡ header_length = omega arith in
      let end : profile_at (layout_of file) (0 + (layout_of file).count) ≡ length file = omega (arith, laid.whole) in
      answered_of o (rw (e) (rw (first, end) at (found-among (layout_of file) file group (layout_of file).count 0)))

pub returns : goal.returns
returns c =
    let a = c.args in
    let layout = c.layout-layout.result in
    let n = c.map.result.iter.end in
    let all : n ≡ layout.count = omega (arith, ap (λ (ks : Range ℕ). ks.end) c.map.ensures.source) in
    let found = find_from_yields_List (is_groups a.file.bytes.now a.group) _ _ c.find.result c.find.ensures.ran
    (YieldsList-from_map _ (profile_at layout) (YieldsList-from_range 0 n n (rw c.map.ensures.source) (omega arith)) c.map.ensures.closure (λ x r q k. search rules))
    (λ x b q k. search (rules, tests)) in
    let found = rw (all, c.layout-layout.ensures.0) at found in
    let told = searched a.file.bytes.now a.group a.place a.file.laid c.find.result (sym (option_map_id c.find.result) ∙ found) in
    rw c.ok_or.ensures.value (record { value = told.0; inside = told.1 })
