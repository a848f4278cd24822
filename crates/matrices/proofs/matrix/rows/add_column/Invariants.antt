use Rattle.std.proofs.Common.{◌≡◌, ◌++◌, take, drop}
use Rattle.matrices.specs.Matrices.{add_column}
use Rattle.matrices.proofs.matrix.rows.add_column.Given as goal

-- the first rows so far have their columns added, and the others are as they were
abbrev pub invariant-loop-row : goal.invariant-loop-row
invariant-loop-row l = l.row-items ≡ add_column l.gate (take l.row-index l.initial.row-items) ++ drop l.row-index l.initial.row-items
