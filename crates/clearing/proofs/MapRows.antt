-- The matrix of a map: its rows bit by bit, and that the images of the unit words are enough to know it.
use Rattle.std.proofs.Common.{◌≡◌, ℕ, zero, suc, ◌+◌, ◌*◌, ◌/◌, ◌%◌, ◌^◌, ◌<◌, ◌≤◌, List, ◌∷◌, length, get_or, sym, refl, ap, ◌∙◌, ap₂, ⊎_elim, pow-suc, zero-add, add-one, arith}
use lib.Pow.{pow-lt}
use Rattle.std.proofs.lemmas.List.{ext_get_or}
use Rattle.std.proofs.lemmas.Bool.{cases_lt}
use Rattle.words.specs.Words.{bit}
use Rattle.words.specs.Maps.{Same}
use Rattle.words.proofs.Bits.{bit_lt, bit_lowest, bit_half, bit_above, same_bits}
use Rattle.matrices.specs.Matrices.{image}
use Rattle.matrices.proofs.Images.{bit_column}
use Rattle.clearing.specs.Pairs.{Square}
use Rattle.clearing.specs.Plans.{row_of, rows_from, matrix_of}

-- ---- maps that agree on words

module _ (n : ℕ) (f g : ℕ → ℕ) (same : Same n f g) where
  row_same : (r c k : ℕ) → c + k ≤ n → row_of f r c k ≡ row_of g r c k
  unfolding row_of
  row_same r c zero h = refl
  row_same r c (suc k) h =
      let cn : c < n = omega arith in
      ap₂ (λ (v w : ℕ). bit v r + 2 * w) (same (2 ^ c) (pow-lt cn)) (row_same r (suc c) k (omega arith))

  rows_same : (r k : ℕ) → rows_from n f r k ≡ rows_from n g r k
  unfolding rows_from
  rows_same r zero = refl
  rows_same r (suc k) = ap₂ (λ (row : ℕ) rows. row ∷ rows) (row_same r 0 n (omega arith)) (rows_same (suc r) k)

  pub matrix_of_same : matrix_of n f ≡ matrix_of n g
  matrix_of_same = rows_same 0 n

-- ---- the rows

module _ (f : ℕ → ℕ) (r : ℕ) where
  row_lt : (c k : ℕ) → row_of f r c k < 2 ^ k
  unfolding row_of
  row_lt c zero = omega arith
  row_lt c (suc k) = omega (arith, pow-suc 2 k, row_lt (suc c) k, bit_lt (f (2 ^ c)) r)

  bit_row : (c k i : ℕ) → i < k → bit (row_of f r c k) i ≡ bit (f (2 ^ (c + i))) r
  unfolding row_of
  bit_row c zero i h = absurd (omega arith)
  bit_row c (suc k) zero h =
      let first = bit (f (2 ^ c)) r in
      let w = first + 2 * row_of f r (suc c) k in
      let low : w % 2 ≡ first = omega (arith, bit_lt (f (2 ^ c)) r) in
      bit_lowest w ∙ low ∙ ap (λ (j : ℕ). bit (f (2 ^ j)) r) (omega arith)
  bit_row c (suc k) (suc i) h =
      let rest = row_of f r (suc c) k in
      let w = bit (f (2 ^ c)) r + 2 * rest in
      let half : w / 2 ≡ rest = omega (arith, bit_lt (f (2 ^ c)) r) in
      ap (bit w) (sym (add-one i)) ∙ sym (bit_half w i) ∙ ap (λ (v : ℕ). bit v i) half ∙ bit_row (suc c) k i (omega arith)
      ∙ ap (λ (j : ℕ). bit (f (2 ^ j)) r) (omega arith)

module _ (n : ℕ) (f : ℕ → ℕ) where
  length_rows_from : (r k : ℕ) → length (rows_from n f r k) ≡ k
  unfolding rows_from
  length_rows_from r zero = refl
  length_rows_from r (suc k) = ap suc (length_rows_from (suc r) k)

  row_at : (r k i : ℕ) → i < k → get_or (rows_from n f r k) i 0 ≡ row_of f (r + i) 0 n
  unfolding rows_from
  row_at r zero i h = absurd (omega arith)
  row_at r (suc k) zero h = ap (λ (j : ℕ). row_of f j 0 n) (omega arith)
  row_at r (suc k) (suc i) h = row_at (suc r) k i (omega arith) ∙ ap (λ (j : ℕ). row_of f j 0 n) (omega arith)

-- ---- the map of a matrix has that matrix

module _ (n : ℕ) (m : List ℕ) (square : Square n m) where
  row_is : (r : ℕ) → r < n → row_of (image m) r 0 n ≡ get_or m r 0
  row_is r h =
      same_bits _ _ (λ i.
      ⊎_elim
      (λ l. bit_row (image m) r 0 n i l ∙ ap (λ (j : ℕ). bit (image m (2 ^ j)) r) (zero-add i) ∙ bit_column m r i)
      (λ l. bit_above n _ i (row_lt (image m) r 0 n) l ∙ sym (bit_above n (get_or m r 0) i (square.small r h) l))
      (cases_lt i n))

  pub matrix_of_image : matrix_of n (image m) ≡ m
  matrix_of_image =
      let size = length_rows_from n (image m) 0 n in
      ext_get_or 0 (matrix_of n (image m)) m (size ∙ sym square.size)
      (λ i h.
      let l : i < n = omega arith in
      row_at n (image m) 0 n i l ∙ ap (λ (j : ℕ). row_of (image m) j 0 n) (zero-add i) ∙ row_is i l)
