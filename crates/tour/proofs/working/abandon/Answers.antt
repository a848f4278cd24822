use Rattle.std.proofs.Common.{None, sym, ◌∙◌}
use Rattle.books.specs.Books.{ends}
use Rattle.job.specs.Calls.{spoilt}
use Rattle.job.proofs.Reasons.{spoilt_none}
use Rattle.job.proofs.Declines.{never_declined}
use Rattle.tour.proofs.working.abandon.Goals as goal

pub unreachable-requires : goal.unreachable-requires
unreachable-requires g c =
    let K = g.G.Gate.kind in
    let t = c.args.ticket in
    let n = (g.P.Piece.meaning c.args.piece.now).lines in
    let es = ends c.args.book.now in
    never_declined c.in-Err._ticket t c.in-Err._why (spoilt K t.lines n es None)
    (spoilt_none K t.lines n es None c.requires.lines (sym c.requires.legal)) (sym c.in-Err.is ∙ c.give_up.ensures.answer)
