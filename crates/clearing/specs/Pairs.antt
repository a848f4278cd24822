-- A matrix beside its inverse, by row words, and its cost.
use Rattle.std.specs.Prelude.{◌≡◌, ℕ, suc, ◌+◌, ◌^◌, ◌<◌, Bool, List, [], ◌∷◌, length, bit_xor, count_ones, slice_index}
use Rattle.words.specs.Words.{has}
use Rattle.words.specs.Maps.{Identity}
use Rattle.gates.specs.declared.cnot.Cnot.{Cnot}
use Rattle.gates.specs.declared.end.End.{End}
use Rattle.gates.specs.declared.end.End.TheVariants.{Input, Output}
use Rattle.matrices.specs.Matrices.{image, add_row, add_column}
use Rattle.clearing.specs.Clearing.{Grid}

pub record Pair : Type 0 where
  pub matrix : List ℕ
  pub inverse : List ℕ

-- Entry (r, c) is bit c of row word r.
abbrev pub entry : List ℕ → ℕ → ℕ → Bool
entry m r c = has (slice_index m r) c

-- A gate at one end of the matrix is the same gate at the other end of the inverse.
abbrev pub place_at : End → Cnot → Pair → Pair
place_at Output g p = record { matrix = add_row g p.matrix; inverse = add_column g p.inverse }
place_at Input g p = record { matrix = add_column g p.matrix; inverse = add_row g p.inverse }

-- In how many entries the rows, counted from r, differ from those of identity.
unfoldable pub differing : ℕ → List ℕ → ℕ
differing r [] = 0
differing r (row ∷ rows) = count_ones (bit_xor row (2 ^ r)) + differing (suc r) rows

-- The number of entries in which the matrix differs from identity, plus the same for its inverse.
abbrev pub cost : Pair → ℕ
cost p = differing 0 p.matrix + differing 0 p.inverse

abbrev pub pairs : Grid
pairs = record {
  State = Pair;
  entry = λ p r c. entry p.matrix r c;
  place = λ g p. place_at g.0 g.1 p;
  cost = cost;
}

-- n row words of n bits.
pub record Square (n : ℕ) (m : List ℕ) : Type 0 where
  pub size : length m ≡ n
  pub small : (r : ℕ) → r < n → slice_index m r < 2 ^ n

-- Each undoes the other.
pub record Inverses (n : ℕ) (p : Pair) : Type 0 where
  pub square : Square n p.matrix
  pub square' : Square n p.inverse
  pub back : Identity n (λ x. image p.inverse (image p.matrix x))
  pub forth : Identity n (λ x. image p.matrix (image p.inverse x))
