use Rattle.matrices.specs.Columns.{Reduced}
use Rattle.matrices.specs.Matrices.{image}
use Rattle.matrices.specs.Meanings.{rows_of}
use Rattle.matrices.proofs.matrix.Matrix.reduced.Given as goal

-- the image lacks the pivots so far
abbrev pub invariant-loop-held : goal.invariant-loop-held
invariant-loop-held l = Reduced (image (rows_of l.self)) l.basis l.held-index l.found
