use Rattle.elimination.specs.States.{state_of}
use Rattle.elimination.proofs.Lining.{Lining}
use Rattle.elimination.proofs.pair.Pair.best_line.Given as goal

abbrev pub invariant-loop-d : goal.invariant-loop-d
invariant-loop-d l = Lining l.self.lines (state_of l.self) l.best l.d
