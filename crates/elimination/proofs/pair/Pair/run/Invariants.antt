use Rattle.std.proofs.Common.{◌≡◌}
use Rattle.clearing.specs.Clearing.{left}
use Rattle.clearing.specs.Pairs.{pairs}
use Rattle.elimination.specs.States.{state_of}
use Rattle.elimination.proofs.Running.{Running}
use Rattle.elimination.proofs.pair.Pair.run.Given as goal

abbrev pub invariant-loop-best : goal.invariant-loop-best
invariant-loop-best l =
    (l.self.lines ≡ l.initial.self.lines)
    × Running l.initial.self.lines (state_of l.initial.self) l.initial.book (state_of l.self) l.book

abbrev pub decreases-loop-best : goal.decreases-loop-best
decreases-loop-best l = left pairs l.initial.self.lines (state_of l.self)
