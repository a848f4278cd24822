use Rattle.std.proofs.Common.{◌≡◌}
use Rattle.matrices.specs.Solving.{Stepped}
use Rattle.matrices.proofs.Clearings.{Cleared}
use Rattle.matrices.proofs.matrix.inverse.Solving.clear_column.Given as goal

-- the column is done in the rows so far
abbrev pub invariant-loop-i : goal.invariant-loop-i
invariant-loop-i l = record { stepped : Stepped l.initial.self l.self; done : l.self.done ≡ l.d; cleared : Cleared l.self.left l.d l.i }
