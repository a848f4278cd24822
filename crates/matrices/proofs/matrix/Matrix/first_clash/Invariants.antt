use Rattle.std.proofs.Common.{◌≡◌, length}
use Rattle.matrices.specs.Columns.{Kept}
use Rattle.matrices.specs.Matrices.{image}
use Rattle.matrices.specs.Meanings.{rows_of}
use Rattle.matrices.proofs.matrix.Matrix.first_clash.Given as goal

-- the basis keeps a word for each line so far
abbrev pub invariant-loop-t : goal.invariant-loop-t
invariant-loop-t l = Kept (image (rows_of l.self)) l.basis.items × (length l.basis.items ≡ l.t)
