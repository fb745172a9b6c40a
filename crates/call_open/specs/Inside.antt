-- What opening a request answers. No definition of document 01.
use Rattle.std.specs.Prelude.{List, ℕ}
use Rattle.calendar_dates.specs.Dates.{date_of}
use Rattle.calendar_period.specs.Period.{period_days}
use Rattle.file_group.specs.Group.{group_offset}
use Rattle.call_request.specs.Request.{Request}
use Rattle.call_open.specs.declared.Opening.{Opening}

-- what questions 1 to 8 find: of a file, a group and a period's dates, and of a request
abbrev pub opening_of : List ℕ → ℕ → ℕ → ℕ → Opening
opening_of file group first last = record { at = group_offset file group; period = period_days (date_of first) (date_of last) }

abbrev pub opening : Request → Opening
opening q = opening_of q.file q.group q.first q.last
