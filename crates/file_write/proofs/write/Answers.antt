-- `file_write::write` meets its contract: what is put into the buffer, once all questions passed, is the file.
use Rattle.std.proofs.Common.{ap, ℕ, List, ◌+◌, ◌*◌, ◌≤◌, length, arith}
use Rattle.std.proofs.lemmas.Grind.{common_steps}
use Rattle.std.specs.Borrow.{Bor}
use Rattle.file_written.proofs.Written.{length-written}
use Rattle.file_write_check.proofs.Passed.{Writable, writable}
use Rattle.file_write.proofs.Buffer.{file-stored}
use Rattle.file_write.proofs.write.Goals as goal

-- room for what is to be written
room : (codes values : List ℕ) (n : ℕ) → Writable codes values n → 6 + length codes * 1729 ≤ n
room codes values n told = rw (length-written codes values told.amount.each) at told.fits

pub put_header-requires : goal.put_header-requires
put_header-requires c =
    let told = writable _ _ _ c.in_ok-profiles.ensures.0 in
    omega (arith, room _ _ _ told)

pub put_profiles-requires : goal.put_profiles-requires
put_profiles-requires c =
    let told = writable _ _ _ c.in_ok-profiles.ensures.0 in
    let codes = ap (λ (lent : Bor (List ℕ)). length lent.now) c.in_ok-profiles.ensures.1 in
    omega (arith, room _ _ _ told, codes, c.put_header.auto.buffer)

pub returns-clause-buffer_after : goal.returns-clause-buffer_after
returns-clause-buffer_after c =
    let a = c.args in
    let passed = c.in_ok-profiles.ensures.0 in
    let told = writable a.codes.now a.values.now (length a.buffer.now) passed in
    let header = rw c.in_ok-profiles.ensures.1 at c.put_header.ensures in
    let profiles = rw (c.in_ok-profiles.ensures.1, c.in_ok-profiles.ensures.2) at c.put_profiles.ensures in
    let stored = file-stored a.codes.now a.values.now a.buffer.now told.fits header profiles in
    grind (arith, common_steps, passed, stored)
