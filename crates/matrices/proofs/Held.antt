-- The rows that a matrix holds: as many as it has lines, each a word on its lines.
use Rattle.std.proofs.Common.{◌≡◌, ℕ, zero, suc, ◌^◌, ◌<◌, cond, ltb, List, [], ◌∷◌, length, get_or, take, set, Some, None, sym, refl, ap, ◌∙◌, subst, ⊎_elim, arith}
use Rattle.std.proofs.lemmas.List.{get_or-take, length-take-le, take_all}
use Rattle.std.proofs.lemmas.Option.{slice_get-get_or, slice_get_past}
use Rattle.std.proofs.lemmas.Bool.{cases_lt, lt-ltb, le-ltb, cond-true, cond-false}
use Rattle.std.specs.List.{slice_get}
use Rattle.words.specs.Maps.{Keeps}
use Rattle.matrices.specs.Matrices.{image}
use Rattle.matrices.specs.Meanings.{rows_of}
use Rattle.matrices.specs.declared.matrix.Matrix.{Matrix}
use Rattle.matrices.proofs.Images.{image_lt}

module _ (m : Matrix) where
  pub length_rows : length (rows_of m) ≡ m.lines
  length_rows = length-take-le m.lines m.rows (omega (arith, m.full, m.few))

  pub row_at : (r : ℕ) → r < m.lines → get_or (rows_of m) r 0 ≡ get_or m.rows r 0
  row_at r h = get_or-take m.lines m.rows r 0 h

  pub row_below : (r : ℕ) → r < m.lines → get_or (rows_of m) r 0 < 2 ^ m.lines
  row_below r h = subst (λ (w : ℕ). w < 2 ^ m.lines) (sym (row_at r h)) (m.below r h)

  pub image_keeps : Keeps m.lines (image (rows_of m))
  image_keeps x _ = subst (λ (k : ℕ). image (rows_of m) x < 2 ^ k) length_rows (image_lt (rows_of m) x)

  pub nth_row : (r : ℕ) → slice_get (rows_of m) r ≡ cond (ltb r m.lines) (Some (get_or m.rows r 0)) None
  nth_row r =
      ⊎_elim
      (λ h. slice_get-get_or (rows_of m) r 0 (omega (arith, length_rows)) ∙ ap Some (row_at r h) ∙ sym (cond-true (ltb r m.lines) _ _ (lt-ltb r m.lines h)))
      (λ h. slice_get_past (rows_of m) r (omega (arith, length_rows)) ∙ sym (cond-false (ltb r m.lines) _ _ (le-ltb r m.lines h)))
      (cases_lt r m.lines)

-- held rows that begin with words on n lines
pub below_by_first : (n : ℕ) (held rows : List ℕ) → take n held ≡ rows → ((r : ℕ) → r < n → get_or rows r 0 < 2 ^ n) → (r : ℕ) → r < n → get_or held r 0 < 2 ^ n
below_by_first n held rows e below r h =
    subst (λ (w : ℕ). w < 2 ^ n) (sym (ap (λ (rs : List ℕ). get_or rs r 0) e) ∙ get_or-take n held r 0 h) (below r h)

-- a loop that has copied every row
pub held_all : (n r : ℕ) (held rows : List ℕ) → r ≡ n → length rows ≡ n → take r held ≡ take r rows → take n held ≡ rows
held_all n r held rows e size same =
    subst (λ (k : ℕ). take k held ≡ take k rows) e same ∙ take_all n rows (omega arith)

-- a row that is replaced within the first rows
pub take_set_within : (n : ℕ) (rows : List ℕ) (t w : ℕ) → take n (set rows t w) ≡ set (take n rows) t w
take_set_within zero rows t w = refl
take_set_within (suc n) [] t w = refl
take_set_within (suc n) (row ∷ rows) zero w = refl
take_set_within (suc n) (row ∷ rows) (suc t) w = ap (λ (rest : List ℕ). row ∷ rest) (take_set_within n rows t w)
