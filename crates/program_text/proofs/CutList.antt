-- The lines for a request whose list is cut are those of the whole list. Assumes nothing.
use Rattle.std.specs.Prelude.{Ok, Err}
use mathlib.Core.Path.{◌≡◌, refl}
use mathlib.Core.List.{List, []}
use Prim.Native.Nat.{ℕ}
use Rattle.big_endian.specs.BigEndian.{longs_from}
use Rattle.refusal.specs.Questions.{Verdict}
use Rattle.call_request.specs.Request.{Request, request, request_check}
use Rattle.call_request.proofs.Sound.{sound}
use Rattle.program_input.specs.Input.{head_length, list_length, request_in}
use Rattle.program_input.specs.Inside.{asked_entries}
use Rattle.program_input.proofs.AskedEntries.{asked-alike, asked-list, whole-list}
use Rattle.program_answer.specs.Answer.{lines_for}
use Rattle.program_answer.specs.Inside.{lines_of}

-- the request of an input, its list cut behind the entries that question 9 can ask about
module _ (input : List ℕ) where
  abbrev pub cut : Request
  cut =
      let q = request_in input in
      request q.file q.group q.first q.last (longs_from input (asked_entries (list_length input)) head_length) q.yearly 0 []

  -- it is refused or accepted as the whole one is, and an accepted list is not cut
  same_check : request_check cut ≡ request_check (request_in input)
  same_check = rw (asked-list input, asked-alike (request_in input).holidays)

  same_lines : (v : Verdict) → request_check (request_in input) ≡ v → lines_for v cut ≡ lines_for v (request_in input)
  unfolding lines_for
  same_lines (Ok _) h = rw (whole-list input (sound (request_in input) h).holidays)
  same_lines (Err r) h = refl

  pub lines_whole : lines_of cut ≡ lines_of (request_in input)
  lines_whole = rw same_check (same_lines (request_check (request_in input)) refl)
