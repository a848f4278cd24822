-- The two layouts after an addition, and the cost by two words.
use Rattle.std.proofs.Common.{◌≡◌, ℕ, ◌+◌, ◌^◌, ◌<◌, ◌≤◌, Bool, ◌&&◌, eqb, ◌≢◌, List, length, get_or, take, sym, ap, ◌∙◌, subst, ap₂, inl, inr, arith}
use lib.Bits.{bit_xor, xor_lt}
use lib.Count.{ones}
use Rattle.std.proofs.lemmas.List.{get_or-set_same, get_or-set_other, get_or-map}
use Rattle.std.proofs.lemmas.Bool.{cases_eq, eq-eqb, ne_eqb}
use Rattle.words.specs.Words.{has}
use Rattle.words.proofs.Bits.{has_xor}
use Rattle.matrices.specs.Matrices.{add_row, add_column}
use Rattle.matrices.proofs.Turns.{turned, turned_below}
use Rattle.clearing.specs.Pairs.{cost}
use mathlib.Core.Bool.{xor}
use Rattle.clearing.proofs.Words.{has_turned, xor_false}
use Rattle.elimination.specs.Halves.{row_added, column_added, off, weigh}
use Rattle.elimination.specs.Layouts.{both, Across, Below, Layout}
use Rattle.elimination.proofs.Additions.{length_added, length_flipped}
use Rattle.elimination.proofs.Sums.{total, total_one, total_across, differing_total}

pub row_at : (m : List ℕ) (c t : ℕ) → t < length m → get_or (row_added c t m) t 0 ≡ bit_xor (get_or m t 0) (get_or m c 0)
unfolding add_row
row_at m c t h = get_or-set_same m t (bit_xor (get_or m t 0) (get_or m c 0)) 0 h

pub row_else : (m : List ℕ) (c t r : ℕ) → r ≢ t → get_or (row_added c t m) r 0 ≡ get_or m r 0
unfolding add_row
row_else m c t r ne = get_or-set_other m t r (bit_xor (get_or m t 0) (get_or m c 0)) 0 ne

pub flipped_at : (m : List ℕ) (c t r : ℕ) → r < length m → get_or (column_added c t m) r 0 ≡ turned t c (get_or m r 0)
unfolding add_column
flipped_at m c t r h = get_or-map (turned t c) m r 0 0 h

module _ (n : ℕ) (xs ys : List ℕ) (lx : n ≤ length xs) (ly : n ≤ length ys) (a b : ℕ) (ha : a < n) (hb : b < n) where
  pub across_added : Across n xs ys → Across n (row_added a b xs) (column_added b a ys)
  across_added h i j hi hj =
      let right : has (get_or (column_added b a ys) j 0) i ≡ xor (has (get_or ys j 0) i) (eqb b i && has (get_or ys j 0) a) =
      ap (λ (w : ℕ). has w i) (flipped_at ys b a j (omega arith)) ∙ has_turned a b (get_or ys j 0) i in
      elim (cases_eq i b) [
        | inl e ↦
            ap (λ (k : ℕ). has (get_or (row_added a b xs) k 0) j) e ∙ ap (λ (w : ℕ). has w j) (row_at xs a b (omega arith))
            ∙ has_xor (get_or xs b 0) (get_or xs a 0) j
            ∙ ap₂ xor (ap (λ (k : ℕ). has (get_or xs k 0) j) (sym e) ∙ h i j hi hj) (h a j ha hj)
            ∙ sym (right ∙ ap (λ (q : Bool). xor (has (get_or ys j 0) i) (q && has (get_or ys j 0) a)) (eq-eqb b i (sym e)))
        | inr e ↦
            ap (λ (w : ℕ). has w j) (row_else xs a b i e) ∙ h i j hi hj
            ∙ sym (right ∙ ap (λ (q : Bool). xor (has (get_or ys j 0) i) (q && has (get_or ys j 0) a)) (ne_eqb b i (λ p. e (sym p))) ∙ xor_false (has (get_or ys j 0) i))
      ]

pub across_flip : (n : ℕ) (xs ys : List ℕ) → Across n xs ys → Across n ys xs
across_flip n xs ys h i j hi hj = sym (h j i hj hi)

pub below_added : (n : ℕ) (xs : List ℕ) (a b : ℕ) → n ≤ length xs → a < n → b < n → Below n xs → Below n (row_added a b xs)
below_added n xs a b lx ha hb h i hi =
    elim (cases_eq i b) [
      | inl e ↦ subst (λ (k : ℕ). get_or (row_added a b xs) k 0 < 2 ^ n) (sym e)
          (subst (λ (w : ℕ). w < 2 ^ n) (sym (row_at xs a b (omega arith))) (xor_lt n (get_or xs b 0) (get_or xs a 0) (h b hb) (h a ha)))
      | inr e ↦ subst (λ (w : ℕ). w < 2 ^ n) (sym (row_else xs a b i e)) (h i hi)
    ]

pub below_flipped : (n : ℕ) (xs : List ℕ) (c t : ℕ) → n ≤ length xs → c < n → Below n xs → Below n (column_added c t xs)
below_flipped n xs c t lx hc h i hi =
    subst (λ (w : ℕ). w < 2 ^ n) (sym (flipped_at xs c t i (omega arith))) (turned_below t c (get_or xs i 0) n hc (h i hi))

-- four lists, long enough
pub record Long (n : ℕ) (r c r' c' : List ℕ) : Type 0 where
  pub rows : n ≤ length r
  pub columns : n ≤ length c
  pub rows' : n ≤ length r'
  pub columns' : n ≤ length c'

pub layout_flip : (n : ℕ) (r c r' c' : List ℕ) → Layout n r c r' c' → Layout n c r c' r'
layout_flip n r c r' c' l = record {
  across = across_flip n r c l.across;
  across' = across_flip n r' c' l.across';
  small_rows = l.small_columns;
  small_columns = l.small_rows;
  small_rows' = l.small_columns';
  small_columns' = l.small_rows';
}

-- an output gate
pub layout_added : (n : ℕ) (r c r' c' : List ℕ) (a b : ℕ) → Long n r c r' c' → a < n → b < n → Layout n r c r' c'
    → Layout n (row_added a b r) (column_added b a c) (column_added a b r') (row_added b a c')
layout_added n r c r' c' a b o ha hb l = record {
  across = across_added n r c o.rows o.columns a b ha hb l.across;
  across' = across_flip n (row_added b a c') (column_added a b r')
      (across_added n c' r' o.columns' o.rows' b a hb ha (across_flip n r' c' l.across'));
  small_rows = below_added n r a b o.rows ha hb l.small_rows;
  small_columns = below_flipped n c b a o.columns hb l.small_columns;
  small_rows' = below_flipped n r' a b o.rows' ha l.small_rows';
  small_columns' = below_added n c' b a o.columns' hb ha l.small_columns';
}

pub long_flip : (n : ℕ) (r c r' c' : List ℕ) → Long n r c r' c' → Long n c r c' r'
long_flip n r c r' c' o = record { rows = o.columns; columns = o.rows; rows' = o.columns'; columns' = o.rows' }

pub long_added : (n : ℕ) (r c r' c' : List ℕ) (a b : ℕ) → Long n r c r' c' → Long n (row_added a b r) (column_added b a c) (column_added a b r') (row_added b a c')
long_added n r c r' c' a b o = record {
  rows = omega (arith, length_added r a b, o.rows);
  columns = omega (arith, length_flipped c b a, o.columns);
  rows' = omega (arith, length_flipped r' a b, o.rows');
  columns' = omega (arith, length_added c' b a, o.columns');
}

-- ---- the cost in each layout

pub cost_by_rows : (n : ℕ) (r c r' c' : List ℕ) → Long n r c r' c' → Layout n r c r' c'
    → cost (both (take n r) (take n r')) ≡ total n (off r) + total n (off c')
cost_by_rows n r c r' c' o l =
    ap₂ (λ (x y : ℕ). x + y) (differing_total n r o.rows)
    (differing_total n r' o.rows' ∙ total_across n r' c' l.across' l.small_rows' l.small_columns')

pub cost_by_columns : (n : ℕ) (r c r' c' : List ℕ) → Long n r c r' c' → Layout n r c r' c'
    → cost (both (take n r) (take n r')) ≡ total n (off c) + total n (off r')
cost_by_columns n r c r' c' o l =
    ap₂ (λ (x y : ℕ). x + y) (differing_total n r o.rows ∙ total_across n r c l.across l.small_rows l.small_columns)
    (differing_total n r' o.rows')

-- an addition changes the count by the two words
pub off_added : (n : ℕ) (xs ys : List ℕ) (a b : ℕ) → a < n → b < n
    → total n (off (row_added a b xs)) + total n (off (row_added b a ys)) + weigh a b xs ys
    ≡ total n (off xs) + total n (off ys) + weigh a b (row_added a b xs) (row_added b a ys)
off_added n xs ys a b ha hb =
    let x : total n (off (row_added a b xs)) + off xs b ≡ total n (off xs) + off (row_added a b xs) b =
    total_one n b (off (row_added a b xs)) (off xs) hb (λ k ne. ap (λ (w : ℕ). ones (bit_xor w (2 ^ k))) (row_else xs a b k ne)) in
    let y : total n (off (row_added b a ys)) + off ys a ≡ total n (off ys) + off (row_added b a ys) a =
    total_one n a (off (row_added b a ys)) (off ys) ha (λ k ne. ap (λ (w : ℕ). ones (bit_xor w (2 ^ k))) (row_else ys b a k ne)) in
    omega arith
