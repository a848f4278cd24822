-- A matrix and its inverse in two layouts, by rows and by columns.
use Rattle.std.specs.Prelude.{◌≡◌, ℕ, ◌^◌, ◌<◌, ◌≤◌, List, take, slice_index}
use Rattle.words.specs.Words.{has}
use Rattle.clearing.specs.Pairs.{Inverses, cost as cost_of}
use Rattle.clearing.specs.Pairs.{Pair as State}
use Rattle.elimination.specs.declared.half.Half.{Half}

abbrev pub both : List ℕ → List ℕ → State
both m v = record { matrix = m; inverse = v }

-- Each layout's words are the other's read across, on n lines.
abbrev pub Across : ℕ → List ℕ → List ℕ → Type 0
Across n xs ys = (i j : ℕ) → i < n → j < n → has (slice_index xs i) j ≡ has (slice_index ys j) i

abbrev pub Below : ℕ → List ℕ → Type 0
Below n xs = (i : ℕ) → i < n → slice_index xs i < 2 ^ n

-- The rows and columns of a matrix, and the rows and columns of its inverse.
pub record Layout (n : ℕ) (rows columns rows' columns' : List ℕ) : Type 0 where
  pub across : Across n rows columns
  pub across' : Across n rows' columns'
  pub small_rows : Below n rows
  pub small_columns : Below n columns
  pub small_rows' : Below n rows'
  pub small_columns' : Below n columns'

-- The matrix and its inverse that two layouts on n lines stand for.
abbrev pub held : ℕ → Half → Half → State
held n rows columns = both (take n rows.first) (take n columns.second)

-- Two layouts of a matrix and its inverse, and the cost of the two.
pub record Sound (lines cost : ℕ) (rows columns : Half) : Type 0 where
  pub few : lines ≤ 64
  pub inverses : Inverses lines (held lines rows columns)
  pub layout : Layout lines rows.first columns.first columns.second rows.second
  pub counted : cost ≡ cost_of (held lines rows columns)
