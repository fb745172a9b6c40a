-- Document 01, "Writing has 3 (1 to 11 codes, 864 values for each), 4, 5 (places as in the file to be written) and 12."
use Rattle.std.specs.Prelude.{◌&&◌, List, ℕ, ◌*◌, leb, eqb, length}
use Rattle.refusal.specs.declared.Refusal.TheVariants.{WrongLength}
use Rattle.refusal.specs.Questions.{Verdict}
use Rattle.refusal.specs.Questions.{ask, ◌then◌, room_question}
use Rattle.file_layout.specs.Header.{layout_of}
use Rattle.file_values.specs.Values.{values_question}
use Rattle.file_check.specs.Check.{codes_question}
use Rattle.file_written.specs.Written.{written}

-- 3. "1 to 11 codes, 864 values for each"
unfoldable pub amount_question : List ℕ → List ℕ → Verdict
amount_question codes values =
    ask (leb 1 (length codes) && leb (length codes) 11 && eqb (length values) (length codes * 864)) WrongLength

-- "places as in the file to be written": 4 and 5 are the reader's, asked of that file; 12 asks for its bytes
unfoldable pub write_check : List ℕ → List ℕ → ℕ → Verdict
write_check codes values room =
    amount_question codes values
    then codes_question (layout_of (written codes values)) (written codes values)
    then values_question (layout_of (written codes values)) (written codes values)
    then room_question (length (written codes values)) room
