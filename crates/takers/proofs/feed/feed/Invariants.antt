use Rattle.std.proofs.Common.{take}
use Rattle.takers.specs.Meanings.{FedAll}
use Rattle.takers.proofs.feed.feed.Given as goal

-- the gates so far are fed
abbrev pub invariant-loop-gate : goal.invariant-loop-gate
invariant-loop-gate g l = FedAll g.G.Gate.kind (g.T.Taker.meaning l.initial.taker) (take l.gate-index l.gates) (g.T.Taker.meaning l.taker)
