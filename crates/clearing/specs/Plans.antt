-- The run of a matrix, from its map alone.
use Rattle.std.specs.Prelude.{ℕ, zero, suc, ◌+◌, ◌*◌, ◌^◌, cond, List, [], ◌∷◌, ◌==◌}
use Rattle.words.specs.Words.{bit}
use Rattle.gates.specs.declared.cnot.Cnot.{Cnot}
use Rattle.pieces.specs.Runs.{Plan}
use Rattle.clearing.specs.Clearing.{run}
use Rattle.clearing.specs.Pairs.{Pair, pairs}
use Rattle.clearing.specs.Laws.{room}

-- Row r of the matrix of a map: bit c of it is bit r of the image of the unit word of line c. Here for k lines from c on.
unfoldable pub row_of : (ℕ → ℕ) → (r c k : ℕ) → ℕ
row_of f r c zero = 0
row_of f r c (suc k) = bit (f (2 ^ c)) r + 2 * row_of f r (suc c) k

-- Its k rows from row r on, on n lines.
unfoldable pub rows_from : ℕ → (ℕ → ℕ) → (r k : ℕ) → List ℕ
rows_from n f r zero = []
rows_from n f r (suc k) = row_of f r 0 n ∷ rows_from n f (suc r) k

abbrev pub matrix_of : ℕ → (ℕ → ℕ) → List ℕ
matrix_of n f = rows_from n f 0 n

-- The word below b whose image is y.
unfoldable pub word_with : (ℕ → ℕ) → ℕ → ℕ → ℕ
word_with f y zero = 0
word_with f y (suc b) = cond (f b == y) b (word_with f y b)

-- The map that undoes f on n lines.
abbrev pub undone : ℕ → (ℕ → ℕ) → ℕ → ℕ
undone n f y = word_with f y (2 ^ n)

-- The matrix of a map, and of the map that undoes it.
abbrev pub pair_of : ℕ → (ℕ → ℕ) → Pair
pair_of n f = record { matrix = matrix_of n f; inverse = matrix_of n (undone n f) }

-- A run clears the lines of the matrix, and needs (n - 1) (2 n + 1) places whatever the matrix.
unfoldable pub matrix_plan : Plan Cnot
matrix_plan = record { gates = λ n f. (run pairs n (pair_of n f)).gates; budget = room }
