use Rattle.std.proofs.Common.{◌≡◌, take}
use Rattle.matrices.specs.Matrices.{image}
use Rattle.matrices.proofs.matrix.Matrix.image_of.Given as goal

-- the image by the rows so far
abbrev pub invariant-loop-r : goal.invariant-loop-r
invariant-loop-r l = l.image ≡ image (take l.r l.row-items) l.word
