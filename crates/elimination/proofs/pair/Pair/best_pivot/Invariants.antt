use Rattle.std.proofs.Common.{◌≡◌}
use Rattle.elimination.specs.States.{state_of}
use Rattle.elimination.proofs.Pivoting.{Pivoting}
use Rattle.elimination.proofs.pair.Pair.best_pivot.Given as goal

abbrev pub invariant-loop-i : goal.invariant-loop-i
invariant-loop-i l = (l.self ≡ l.initial.self) × Pivoting l.initial.self.lines (state_of l.initial.self) l.d l.best l.i
