use Rattle.books.specs.Books.{places}
use Rattle.job.proofs.Playing.{Playing}
use Rattle.job.proofs.play.play.Given as goal

abbrev pub invariant-loop-step : goal.invariant-loop-step
invariant-loop-step g l =
    let m = g.P.Piece.meaning l.initial.piece in
    let room = places l.initial.book in
    Playing g.G.Gate.kind (g.C.Playable.rules m.lines room) (g.C.Playable.gives m.lines room) m l.initial.book l.initial.steps l.step-index l.steps (g.P.Piece.meaning l.piece) l.book
