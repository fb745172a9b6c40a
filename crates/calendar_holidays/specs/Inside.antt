-- What is left of a list of holidays where the days of a call have come to a date. No definition of document 01.
use Rattle.std.specs.Prelude.{List, ℕ, ltb, drop}
use Rattle.std.specs.List.{prefix_len}

-- the entries from the first one on that is not earlier than a date: without the earlier ones that the list begins with
abbrev pub entries_from : ℕ → List ℕ → List ℕ
entries_from date holidays = drop (prefix_len (λ entry. ltb entry date) holidays) holidays
