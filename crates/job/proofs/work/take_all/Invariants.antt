use Rattle.std.proofs.Common.{length}
use Rattle.books.specs.Ends.{found}
use Rattle.books.specs.Books.{ends}
use Rattle.job.proofs.Taking.{TakenBack}
use Rattle.job.proofs.work.take_all.Given as goal

abbrev pub invariant-loop-gate : goal.invariant-loop-gate
invariant-loop-gate g l =
    TakenBack g.G.Gate.kind l.end (g.P.Piece.meaning l.initial.piece) l.initial.book (g.P.Piece.meaning l.piece) l.book

abbrev pub decreases-loop-gate : goal.decreases-loop-gate
decreases-loop-gate g l = length (found l.end (ends l.book))
