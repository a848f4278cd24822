use Rattle.clearing.specs.Clearing.{sweep_at}
use Rattle.clearing.specs.Pairs.{pairs}
use Rattle.elimination.proofs.Steps.{Doing}
use Rattle.elimination.proofs.pair.clear.Found.sweep.Given as goal

abbrev pub invariant-loop-i : goal.invariant-loop-i
invariant-loop-i l = Doing (sweep_at pairs l.end l.d) 1 l.initial.self.pair.lines l.initial.self l.self l.i
