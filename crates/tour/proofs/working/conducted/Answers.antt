use Rattle.std.proofs.Common.{sym, ◌∙◌, subst}
use Rattle.books.specs.Books.{places}
use Rattle.pieces.specs.Jobs.{opened}
use Rattle.job.specs.Paper.{edits, played}
use Rattle.job.specs.Endings.{HandedOver}
use Rattle.job.proofs.Declines.{own_lines, still_legal}
use Rattle.tour.proofs.working.conducted.Goals as goal

pub abandon-requires : goal.abandon-requires
abandon-requires g c =
    let K = g.G.Gate.kind in
    let meaning = g.T.Taker.meaning in
    let m = g.P.Piece.meaning c.args.piece.now in
    let m' = g.P.Piece.meaning c.conduct.new.piece in
    let b' = c.conduct.new.book in
    let s = c.args.taker.now in
    let s' = c.conduct.new.taker in
    let j = played (edits K m.lines (places c.args.book.now)) c.args.steps.now (opened m.map) in
    let done = c.in_ok-conduct.ensures.1 in
    let h = subst (HandedOver K meaning m j m' b' s s') c.in-Err.is done.ended in
    let t = c.in-Err.ticket in
    let why = c.in-Err.why in
    record {
      lines = own_lines K meaning m j m' b' s s' t why h ∙ sym done.same_lines;
      legal = still_legal K meaning m j m' b' s s' t why h done.legal;
    }
