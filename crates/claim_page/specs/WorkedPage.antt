-- Document 02, (e): lines of a page and question 19, worked out: those of document 01's listing, every byte.
use Rattle.std.specs.Prelude.{Err, ◌≡◌, [], ◌∷◌, ℕ}
use Rattle.refusal.specs.declared.Refusal.TheVariants.{ShortPage}
use Rattle.refusal.specs.Questions.{Pass}
use Rattle.calendar_dates.specs.declared.Date.{Date}
use Rattle.calendar_days.specs.Days.{day_kind}
use Rattle.series_rows.specs.Rows.{row_of}
use Rattle.text_page_lines.specs.PageLines.{day_page_line, last_page_line}
use Rattle.call_page.specs.Page.{page_question}

abbrev pub march : ℕ → Date
march day = record { year = 2000; month = 3; day = day }

-- Proved in proofs/WorkedPage.antt.
pub record WorkedPage : Type 0 where
  -- "2000-03-25 T2     96             2402", a Saturday without holidays
  pub saturday : day_page_line (day_kind (march 25) []) (row_of (march 25) 96 2_402) ≡ 50 ∷ 48 ∷ 48 ∷ 48 ∷ 45 ∷ 48 ∷ 51 ∷ 45 ∷ 50 ∷ 53 ∷ 32 ∷ 84 ∷ 50 ∷ 32 ∷ 32 ∷ 32 ∷ 32 ∷ 32 ∷ 57 ∷ 54 ∷ 32 ∷ 32 ∷ 32 ∷ 32 ∷ 32 ∷ 32 ∷ 32 ∷ 32 ∷ 32 ∷ 32 ∷ 32 ∷ 32 ∷ 32 ∷ 50 ∷ 52 ∷ 48 ∷ 50 ∷ 10 ∷ []
  -- "2000-03-26 T3     92             2302", a Sunday with the clock change
  pub sunday : day_page_line (day_kind (march 26) []) (row_of (march 26) 92 2_302) ≡ 50 ∷ 48 ∷ 48 ∷ 48 ∷ 45 ∷ 48 ∷ 51 ∷ 45 ∷ 50 ∷ 54 ∷ 32 ∷ 84 ∷ 51 ∷ 32 ∷ 32 ∷ 32 ∷ 32 ∷ 32 ∷ 57 ∷ 50 ∷ 32 ∷ 32 ∷ 32 ∷ 32 ∷ 32 ∷ 32 ∷ 32 ∷ 32 ∷ 32 ∷ 32 ∷ 32 ∷ 32 ∷ 32 ∷ 50 ∷ 51 ∷ 48 ∷ 50 ∷ 10 ∷ []
  -- "total      --    188             4704"
  pub last : last_page_line (record { count = 188; total = 4_704; carry = 28_000 }) ≡ 116 ∷ 111 ∷ 116 ∷ 97 ∷ 108 ∷ 32 ∷ 32 ∷ 32 ∷ 32 ∷ 32 ∷ 32 ∷ 45 ∷ 45 ∷ 32 ∷ 32 ∷ 32 ∷ 32 ∷ 49 ∷ 56 ∷ 56 ∷ 32 ∷ 32 ∷ 32 ∷ 32 ∷ 32 ∷ 32 ∷ 32 ∷ 32 ∷ 32 ∷ 32 ∷ 32 ∷ 32 ∷ 32 ∷ 52 ∷ 55 ∷ 48 ∷ 52 ∷ 10 ∷ []
  -- "place = bytes needed": 114 for two days
  pub byte_short : page_question 2 113 ≡ Err (ShortPage 114)
  pub just_enough : page_question 2 114 ≡ Pass
