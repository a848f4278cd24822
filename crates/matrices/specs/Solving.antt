-- How an inverse is made: the same row additions go into the matrix, until it is identity, and into identity.
use Rattle.std.specs.Prelude.{◌≡◌, ℕ}
use Rattle.gates.specs.declared.cnot.Cnot.{Cnot}
use Rattle.matrices.specs.Matrices.{image, add_row}
use Rattle.matrices.specs.Meanings.{rows_of}
use Rattle.matrices.specs.declared.matrix.inverse.Solving.{Solving}

-- The same row addition in both.
pub record Added (g : Cnot) (s s' : Solving) : Type 0 where
  pub lines : s'.left.lines ≡ s.left.lines
  pub left : rows_of s'.left ≡ add_row g (rows_of s.left)
  pub made : rows_of s'.made ≡ add_row g (rows_of s.made)
  pub done : s'.done ≡ s.done

-- The row additions of a step: `map` is what they make of the images of either matrix, and only 0 comes to 0.
pub record Stepped (s s' : Solving) : Type 0 where
  pub lines : s'.left.lines ≡ s.left.lines
  pub map : ℕ → ℕ
  pub single : (y : ℕ) → map y ≡ 0 → y ≡ 0
  pub left : (x : ℕ) → image (rows_of s'.left) x ≡ map (image (rows_of s.left) x)
  pub made : (x : ℕ) → image (rows_of s'.made) x ≡ map (image (rows_of s.made) x)
