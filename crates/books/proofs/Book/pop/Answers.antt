use Rattle.std.proofs.Common.{sym}
use Rattle.books.proofs.BookLaws.{struck_last}
use Rattle.books.proofs.Book.pop.Goals as goal

pub returns-clause-ends : goal.returns-clause-ends
returns-clause-ends g c = struck_last c.args.self.now c.args.end c.in_ok-gate.gate c.shrink.new.self (sym c.in_ok-gate.ensures) c.shrink.ensures.places c.shrink.ensures.counts
