-- What a matrix means, and what its calls come to.
use Rattle.std.specs.Prelude.{◌≡◌, ℕ, List, take, Some, None, Ok, Err, Result}
use Rattle.words.specs.Maps.{Identity, Clash}
use Rattle.gates.specs.declared.refusal.Refusal.{Refusal}
use Rattle.gates.specs.declared.refusal.Refusal.TheVariants.{SharedImage}
use Rattle.pieces.specs.Meanings.{Meaning}
use Rattle.pieces.specs.Rows.{unfit}
use Rattle.matrices.specs.Matrices.{image}
use Rattle.matrices.specs.declared.matrix.Matrix.{Matrix}

abbrev pub rows_of : Matrix → List ℕ
rows_of m = take m.lines m.rows

abbrev pub matrix_meaning : Matrix → Meaning
matrix_meaning m = record { lines = m.lines; map = image (rows_of m) }

-- A matrix made of rows has them; it is refused for its size, or for the first row that is no word on its lines.
abbrev pub Made : ℕ → List ℕ → Result Matrix Refusal → Type 0
Made n rows (Ok m) = (unfit 64 n n rows ≡ None) × (m.lines ≡ n) × (rows_of m ≡ rows)
Made n rows (Err why) = unfit 64 n n rows ≡ Some why

-- The inverse undoes the matrix from either side; a matrix with a clash has none, and the clash is told.
abbrev pub Inverted : Matrix → Result Matrix Refusal → Type 0
Inverted m (Ok v) =
    (v.lines ≡ m.lines) × Identity m.lines (λ x. image (rows_of v) (image (rows_of m) x)) × Identity m.lines (λ x. image (rows_of m) (image (rows_of v) x))
Inverted m (Err why) = (p : ℕ × ℕ) × Clash m.lines (image (rows_of m)) (Some p) × (why ≡ SharedImage p.0 p.1)
