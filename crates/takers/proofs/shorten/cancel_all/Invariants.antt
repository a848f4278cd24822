use Rattle.std.proofs.Common.{take}
use Rattle.takers.specs.Meanings.{FedAll}
use Rattle.takers.specs.Cancellers.{cancelling, Sendable}
use Rattle.takers.proofs.shorten.cancel_all.Given as goal

-- the gates so far are fed, and the last of them can be sent below
abbrev pub invariant-loop-gate : goal.invariant-loop-gate
invariant-loop-gate g l =
    let K = g.G.Gate.kind in
    let below = g.T.Taker.meaning in
    FedAll K (cancelling K below l.initial.canceller) (take l.gate-index l.gates) (cancelling K below l.canceller) × Sendable K below l.canceller
