-- `HolidaysAhead::lists` meets its contract: the entries left out are earlier than the date and all later ones.
use Rattle.calendar_holidays.proofs.Holidays.{listed-from, listed-ends, listed-begins}
use Rattle.calendar_holidays.proofs.ahead.HolidaysAhead.lists.Goals as goal
use Rattle.calendar_holidays.proofs.ahead.HolidaysAhead.lists.Goals.{in-empty, in-len1-up}

pub returns-clause-now : goal.returns-clause-now
returns-clause-now c =
    let date = c.args.date in
    let before = c.self.inside.ahead.now in
    let is = c.entries_from-self-inside.ensures in
    let told = c.self.view_is in
    elim c.if-self-lt1.branch [
      | in-empty w ↦ rw (← told, w.result-is) (listed-ends date before (rw is at w.in-empty.len_below))
      | in-len1-up w ↦ rw (← told, w.result-is, is) (listed-begins date before c.self.invariant (rw is at w.in-len1-up.len_at_least))
    ]

pub returns-clause-later : goal.returns-clause-later
returns-clause-later c =
    λ later h. rw (c.entries_from-self-inside.ensures, ← c.self.view_is) (listed-from c.args.date later c.self.inside.ahead.now h)
