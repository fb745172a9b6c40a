-- Document 01, "The profile file": what writing leaves in the lent buffer, accepted and refused.
use Rattle.std.specs.Prelude.{List, ℕ, length}
use Rattle.refusal.specs.Questions.{lent_after}
use Rattle.file_written.specs.Written.{written}
use Rattle.file_write_check.specs.WriteCheck.{write_check}

-- the lent buffer after the call
abbrev pub buffer_after : List ℕ → List ℕ → List ℕ → List ℕ
buffer_after codes values buffer =
    lent_after (write_check codes values (length buffer)) (written codes values) buffer
