-- One layout of a matrix and its inverse, and the addition of a line.
use Rattle.std.specs.Prelude.{◌≡◌, ℕ, ◌+◌, ◌^◌, List, bit_xor, count_ones, slice_index}
use Rattle.matrices.specs.Matrices.{add_row, add_column}
use Rattle.elimination.specs.declared.addition.Addition.{Addition}
use Rattle.elimination.specs.declared.half.Half.{Half}

-- Word a is added to word b.
abbrev pub row_added : ℕ → ℕ → List ℕ → List ℕ
row_added a b words = add_row (record { control = a; target = b }) words

-- Bit t of each word is added to its bit c.
abbrev pub column_added : ℕ → ℕ → List ℕ → List ℕ
column_added c t words = add_column (record { control = c; target = t }) words

-- Line `from` was added to line `to` of the first words, and line `to` to line `from` of the second.
pub record Added (a : Addition) (h h' : Half) : Type 0 where
  pub first : h'.first ≡ row_added a.from a.to h.first
  pub second : h'.second ≡ row_added a.to a.from h.second

-- The same addition seen across: a bit of each word.
pub record Spread (a : Addition) (h h' : Half) : Type 0 where
  pub first : h'.first ≡ column_added a.to a.from h.first
  pub second : h'.second ≡ column_added a.from a.to h.second

-- The bits of word i that are not those of identity.
abbrev pub off : List ℕ → ℕ → ℕ
off words i = count_ones (bit_xor (slice_index words i) (2 ^ i))

-- Of the two words that the addition changes.
abbrev pub weigh : ℕ → ℕ → List ℕ → List ℕ → ℕ
weigh from to first second = off first to + off second from

abbrev pub weight_of : Addition → Half → ℕ
weight_of a h = weigh a.from a.to h.first h.second

-- Once the addition is made.
abbrev pub weight_once : Addition → Half → ℕ
weight_once a h = weigh a.from a.to (row_added a.from a.to h.first) (row_added a.to a.from h.second)
