-- What a request that was opened is known to be, and what the functions below expanding and listing require. Assumes nothing.
use Rattle.std.proofs.Common.{◌≡◌, refl, Bool, true, false, ℕ, ◌≤◌, List, length, get_or, Ok, Err, ◌∙◌, arith}
use lib.Dec.{ltb}
use lib.ListN.{get_or-eq_default}
use borrow.Author.Tests.{ltb-true, ltb-false}
use Rattle.big_endian.specs.Inside.{words_of}
use Rattle.refusal.specs.declared.Refusal.{Refusal}
use Rattle.refusal.specs.Questions.{Verdict, Pass, answered, room_question}
use Rattle.calendar_dates.specs.Dates.{date_of}
use Rattle.calendar_period.specs.Period.{period_days, value_count_of_days}
use Rattle.file_layout.specs.Header.{layout_of}
use Rattle.file_layout.specs.Inside.{value_bytes}
use Rattle.file_group.specs.Group.{table_of}
use Rattle.file_group.proofs.Group.{Checked, check-passed, table-length, table-bound, FoundAt, part-words}
use Rattle.day_powers.specs.DayQuarters.{basis, day_quarters}
use Rattle.series.specs.Series.{quarters_of_days}
use Rattle.series.specs.Inside.{GroupValues}
use Rattle.call_request.specs.Request.{Request, quarters, series, request_check}
use Rattle.call_request.proofs.Sound.{Sound, sound, entries-needed}
use Rattle.call_open.specs.declared.Opening.{Opening}
use Rattle.call_open.specs.Inside.{opening}

-- what an answer tells of the questions asked
pub opened-refused : {A : Type 0} (v : Verdict) (given : A) {r : Refusal} → Err r ≡ answered v given → v ≡ Err r
opened-refused (Ok _) given h = let z : ◌≡◌ {A = ℕ} 0 1 = cc in absurd (omega arith)
opened-refused (Err r) given h = cc

pub opened-request : {A : Type 0} (v : Verdict) {o given : A} → Ok o ≡ answered v given → (v ≡ Pass) × (o ≡ given)
opened-request (Ok _) {o} {given} h = let e : o ≡ given = cc in (refl, e)
opened-request (Err r) h = let z : ◌≡◌ {A = ℕ} 0 1 = cc in absurd (omega arith)

-- a group's values in an accepted file: 864, none above 20,000
module _ (file : List ℕ) (group : ℕ) (c : Checked file group) where
  value-small : (i : ℕ) (b : Bool) → ltb i (layout_of file).entries ≡ b → get_or (table_of file group) i 0 ≤ 20_000
  value-small i true h = table-bound file group i 0 c (ltb-true _ _ h)
  value-small i false h =
      omega (arith, get_or-eq_default (table_of file group) 0 {n = i} (omega (arith, table-length file group, ltb-false i (layout_of file).entries h)))

  pub table-values : GroupValues (table_of file group)
  unfolding layout_of
  table-values = record { whole = table-length file group; small = λ i. value-small i (ltb i (layout_of file).entries) refl }

-- a request that was opened
pub record OpenedFor (q : Request) (o : Opening) : Type 0 where
  pub passed : request_check q ≡ Pass
  pub sound : Sound q
  pub found : FoundAt q.file q.group o.at
  pub period : o.period ≡ period_days (date_of q.first) (date_of q.last)

pub opened-for : (q : Request) {o : Opening} → Ok o ≡ answered (request_check q) (opening q) → OpenedFor q o
opened-for q h =
    let told = opened-request _ h in
    let s = sound q told.0 in
    rw told.1
    (record { passed = told.0; sound = s; found = record { checked = check-passed q.file q.group s.file; place = refl }; period = refl })

module _ (q : Request) {o : Opening} (opened : OpenedFor q o) where
  -- question 12, of the days' quarter hours
  pub room-needed : (room : ℕ) → room_question (value_count_of_days o.period.days o.period.first) room ≡ room_question (length (series q)) room
  room-needed room = rw (opened.period, entries-needed q)

  -- the values at the group's place are the request's, and so are the quarter hours made of them
  module _ {values : List ℕ} (are : values ≡ words_of (value_bytes q.file o.at)) where
    pub table_is : values ≡ table_of q.file q.group
    table_is = are ∙ part-words q.file q.group opened.found refl

    pub group-values : GroupValues values
    group-values = rw table_is (table-values q.file q.group opened.found.checked)

    pub same-quarters : quarters_of_days (day_quarters (basis values q.group q.holidays)) o.period.days o.period.first ≡ quarters q
    same-quarters = rw (table_is, opened.period)
