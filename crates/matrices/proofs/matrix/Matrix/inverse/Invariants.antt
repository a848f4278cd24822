use Rattle.std.proofs.Common.{◌-◌, ◌≤◌}
use Rattle.matrices.specs.Solving.{Stepped}
use Rattle.matrices.proofs.matrix.Matrix.inverse.Given as goal

-- steps have come from the matrix and identity, and there are no more columns
abbrev pub invariant-loop-solving : goal.invariant-loop-solving
invariant-loop-solving l = Stepped l.initial.solving l.solving × (l.solving.done ≤ l.self.lines)

abbrev pub decreases-loop-solving : goal.decreases-loop-solving
decreases-loop-solving l = l.self.lines - l.solving.done
