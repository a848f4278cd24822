use Rattle.std.proofs.Common.{take}
use Rattle.books.specs.Ends.{circuit}
use Rattle.books.specs.Books.{ends}
use Rattle.takers.specs.Meanings.{FedAll}
use Rattle.job.proofs.work.feed_circuit.Given as goal

-- the gates so far are fed
abbrev pub invariant-loop-at : goal.invariant-loop-at
invariant-loop-at g l = FedAll g.G.Gate.kind (g.T.Taker.meaning l.initial.taker) (take l.at (circuit (ends l.book))) (g.T.Taker.meaning l.taker)
