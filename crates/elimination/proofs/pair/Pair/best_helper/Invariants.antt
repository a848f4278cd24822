use Rattle.std.proofs.Common.{◌≡◌}
use Rattle.elimination.specs.States.{state_of}
use Rattle.elimination.proofs.Helping.{Helping}
use Rattle.elimination.proofs.pair.Pair.best_helper.Given as goal

abbrev pub invariant-loop-j : goal.invariant-loop-j
invariant-loop-j l =
    (l.self ≡ l.initial.self)
    × Helping l.initial.self.lines (state_of l.initial.self) l.end l.d l.i l.best l.j
