-- How far a matrix is on its way to identity.
use Rattle.std.specs.Prelude.{◌≡◌, ℕ, ◌^◌, ◌<◌}
use Rattle.words.specs.Maps.{Identity}
use Rattle.matrices.specs.Matrices.{image}
use Rattle.matrices.specs.Meanings.{rows_of}
use Rattle.matrices.specs.declared.matrix.Matrix.{Matrix}

-- The words on the first d lines are their own images, and only 0 has the image 0.
pub record Solved (m : Matrix) (d : ℕ) : Type 0 where
  pub fixed : Identity d (image (rows_of m))
  pub single : (x : ℕ) → x < 2 ^ m.lines → image (rows_of m) x ≡ 0 → x ≡ 0
