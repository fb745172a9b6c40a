-- Writing's question 4, asked of the lent codes, is that of the file to be written. Assumes nothing.
use Rattle.std.proofs.Common.{◌≡◌, ◌∙◌, ℕ, ◌+◌, ◌*◌, ◌<◌, List, None, length, arith}
use Rattle.std.proofs.lemmas.List.{ext_get_or}
use Rattle.std.proofs.lemmas.List.FromFn.{length-map-range_with_len, get_or-map-range_with_len}
use Rattle.big_endian.specs.BigEndian.{byte_at, bytes_of}
use Rattle.file_layout.specs.Header.{layout_of}
use Rattle.file_layout.proofs.Header.{sound}
use Rattle.file_check.specs.Check.{codes_question}
use Rattle.file_check.specs.Inside.{codes_asked}
use Rattle.file_check.proofs.Asked.{codes_from, codes-asked}
use Rattle.file_written.specs.Written.{written}
use Rattle.file_written.proofs.Written.{code_at}

module _ (codes values : List ℕ) (each : length values ≡ length codes * 864) where
  -- the codes of that file are the lent ones
  codes-back : codes_from (layout_of (written codes values)) (written codes values) 0 (length codes) ≡ codes
  unfolding layout_of
  codes-back =
      let code : ℕ → ℕ = λ k. byte_at (written codes values) (6 + k * 1729) in
      let all = length-map-range_with_len code 0 (length codes) in
      ext_get_or 0 _ codes all
      (λ i h.
      let below : i < length codes = omega (arith, all, h) in
      get_or-map-range_with_len code 0 (length codes) i i 0 below (omega arith) ∙ code_at codes values each i below)

  pub written-codes : codes_asked 1729 None 6 codes ≡ codes_question (layout_of (written codes values)) (written codes values)
  unfolding layout_of written bytes_of
  written-codes = rw codes-back at (codes-asked (layout_of (written codes values)) (written codes values) (length codes) 0 (sound (written codes values)))
