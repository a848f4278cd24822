use Rattle.std.proofs.Common.{◌≡◌, take}
use Rattle.gates.specs.Circuits.{all_legal}
use Rattle.gates.proofs.circuit.all_legal.Given as goal

abbrev pub invariant-loop-gate : goal.invariant-loop-gate
invariant-loop-gate g l = l.legal ≡ all_legal g.G.Gate.kind l.n (take l.gate-index l.gates)
