-- What each turn of the loop keeps: what is left to write, and the digits written, are the number's last digits.
use Rattle.std.proofs.Common.{◌≡◌, ◌++◌, length, drop}
use Rattle.text.specs.Inside.{last_digits}
use Rattle.text.proofs.write_digits.Given as goal

abbrev pub invariant-loop-place : goal.invariant-loop-place
invariant-loop-place l = last_digits l.place l.rest ++ drop l.place l.places ≡ last_digits (length l.initial.places) l.n
