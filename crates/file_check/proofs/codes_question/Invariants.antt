-- What each turn of the loop keeps: the codes that are left to ask come to the answer, and there are few of them.
use Rattle.std.proofs.Common.{◌+◌, ◌*◌, ◌≤◌, ℕ, List, None}
use Rattle.std.specs.Iterator.{AlwaysYields, IsFinite, size}
use Rattle.std.specs.Iterator.Adapters.{enumerate_source, enumerate_count}
use Rattle.file_check.specs.Inside.{codes_asked}
use Rattle.file_check.proofs.Asked.{CodesLeft}
use Rattle.file_check.proofs.codes_question.Given as goal

abbrev pub invariant-loop-k : goal.invariant-loop-k
invariant-loop-k g l =
    (IsFinite (g.I.Iterator.remaining (enumerate_source l.k-iterator))
    × (enumerate_count l.k-iterator + size (g.I.Iterator.remaining (enumerate_source l.k-iterator)) ≤ 255))
    × ((all : List ℕ) → AlwaysYields g.I.Iterator.next_gives (λ code. code) l.fn.codes all →
    CodesLeft g.I.Iterator.next_gives l.apart (codes_asked l.apart None 6 all) (enumerate_source l.k-iterator) l.before (6 + enumerate_count l.k-iterator * l.apart))
