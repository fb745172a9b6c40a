-- Document 01, question 4, and questions 1 to 5: when a file is accepted.
use Rattle.std.specs.Prelude.{◌&&◌, ◌||◌, List, ℕ, ◌-◌, leb, ltb, eqb}
use Rattle.big_endian.specs.BigEndian.{byte_at}
use Rattle.refusal.specs.declared.Refusal.TheVariants.{BadCode}
use Rattle.refusal.specs.Questions.{Verdict}
use Rattle.refusal.specs.Questions.{ask, ◌then◌, ask_each}
use Rattle.file_layout.specs.declared.Layout.{Layout}
use Rattle.file_layout.specs.Header.{header_length, layout_of, profile_length, header_check}
use Rattle.file_values.specs.Values.{values_question}

-- 4. "Are all codes 0 to 10, each above the one before?", of the code at one offset, and of all
unfoldable pub code_question : Layout → List ℕ → ℕ → Verdict
code_question layout file at =
    ask
    (leb (byte_at file at) 10 && (eqb at header_length || ltb (byte_at file (at - profile_length layout)) (byte_at file at)))
    (BadCode at)

abbrev pub codes_question : Layout → List ℕ → Verdict
codes_question layout file = ask_each (code_question layout file) (profile_length layout) layout.count header_length

-- questions 1 to 5
unfoldable pub file_check : List ℕ → Verdict
file_check file =
    header_check file then codes_question (layout_of file) file
    then values_question (layout_of file) file
