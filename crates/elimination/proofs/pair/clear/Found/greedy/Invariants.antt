use Rattle.clearing.specs.Clearing.{greedy_at}
use Rattle.clearing.specs.Pairs.{pairs}
use Rattle.elimination.proofs.Steps.{Doing}
use Rattle.elimination.proofs.pair.clear.Found.greedy.Given as goal

abbrev pub invariant-loop-i : goal.invariant-loop-i
invariant-loop-i l = Doing (greedy_at pairs l.initial.self.pair.lines l.d) 2 l.initial.self.pair.lines l.initial.self l.self l.i
