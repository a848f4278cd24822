use Rattle.std.proofs.Common.{sym, subst}
use Rattle.books.specs.Books.{ends}
use Rattle.job.specs.Calls.{DeliveryAnswer}
use Rattle.job.proofs.ticket.Ticket.deliver.Goals as goal

pub returns-clause-answer : goal.returns-clause-answer
returns-clause-answer g c =
    subst
    (DeliveryAnswer g.G.Gate.kind c.args.self (g.P.Piece.meaning c.args.piece.now) (ends c.args.book.now) (g.T.Taker.meaning c.args.taker.now))
    (sym c.end.ensures) c.hand_over-answer.ensures.answer
