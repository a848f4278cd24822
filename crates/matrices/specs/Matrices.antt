-- Square matrices of bits by their row words: entry (r, c) is bit c of row word r.
use Rattle.std.specs.Prelude.{ℕ, zero, suc, ◌+◌, ◌*◌, ◌^◌, cond, List, [], ◌∷◌, map, bit_xor, slice_index, slice_set}
use Rattle.words.specs.Words.{has, parity}
use Rattle.gates.specs.declared.cnot.Cnot.{Cnot}

-- Bit r of the image of x is 1 exactly when row r and x share an odd number of ones.
unfoldable pub image : List ℕ → ℕ → ℕ
image [] x = 0
image (row ∷ rows) x = image rows x * 2 + parity row x

-- The output gate (c, t) adds row c to row t.
unfoldable pub add_row : Cnot → List ℕ → List ℕ
add_row g rows = slice_set rows g.target (bit_xor (slice_index rows g.target) (slice_index rows g.control))

-- The input gate (c, t) adds column t to column c: each row has its bit c flipped where its bit t is 1.
unfoldable pub add_column : Cnot → List ℕ → List ℕ
add_column g rows = map (λ row. cond (has row g.target) (bit_xor row (2 ^ g.control)) row) rows

-- The rows of identity: so many unit rows, the first of line r.
unfoldable pub unit_rows : ℕ → ℕ → List ℕ
unit_rows r zero = []
unit_rows r (suc k) = 2 ^ r ∷ unit_rows (suc r) k
