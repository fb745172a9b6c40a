-- Document 01, "The program": the fields of a line.
use Rattle.std.specs.Prelude.{List, [], ◌∷◌, ℕ}
use Rattle.calendar_days.specs.declared.DayKind.{DayKind}
use Rattle.calendar_days.specs.Days.{season_letter, day_type_digit}
use Rattle.text.specs.Text.{space, digit, decimal_text}

-- "season letter (W, S, T) with day digit (1 weekday, 2 Saturday, 3 Sunday)"
abbrev pub day_type_text : DayKind → List ℕ
day_type_text kind = season_letter kind.season ∷ digit (day_type_digit kind.day_type) ∷ []

-- a number behind the field before it: "fields are split by one space"
abbrev pub field : ℕ → List ℕ
field n = space ∷ decimal_text n

-- "the word total", in ASCII
abbrev pub total_word : List ℕ
total_word = 116 ∷ 111 ∷ 116 ∷ 97 ∷ 108 ∷ []
