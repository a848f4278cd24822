-- A row addition puts its gate after the map, and a column addition puts it before.
use Rattle.std.proofs.Common.{◌≡◌, ℕ, ◌+◌, ◌*◌, ◌%◌, ◌^◌, ◌<◌, true, cond, ◌&&◌, ltb, List, [], ◌∷◌, length, get_or, sym, refl, ap, ◌∙◌, subst, ap₂, ⊎_elim, arith}
use lib.Bits.{bit_xor, xor_lt}
use Rattle.std.proofs.lemmas.List.{get_or-set_same, get_or-set_other, get_or-map}
use Rattle.std.proofs.lemmas.Bool.{cases_eq, lt-ltb}
use Rattle.words.specs.Words.{bit, has, parity}
use Rattle.words.proofs.Parities.{parity_xor}
use Rattle.gates.specs.Cnots.{cnot, cnot_legal}
use Rattle.gates.specs.declared.cnot.Cnot.{Cnot}
use Rattle.gates.specs.CnotLaws.{legal_says}
use Rattle.matrices.specs.Matrices.{image, add_row, add_column}
use Rattle.matrices.proofs.Images.{bit_image, image_by_bits}
use Rattle.matrices.proofs.Turns.{turned, turned_same, turned_other, turned_below, parity_turns}

-- what a legal gate makes of a word
pub act_turns : (n : ℕ) (g : Cnot) (w : ℕ) → cnot_legal n g ≡ true → w < 2 ^ n → cnot.act n g w ≡ turned g.control g.target w
act_turns n g w legal below =
    let flips = bit_xor w (2 ^ g.target) in
    ap (λ b. cond (b && (ltb w (2 ^ n) && has w g.control)) flips w) legal
    ∙ ap (λ b. cond (b && has w g.control) flips w) (lt-ltb w (2 ^ n) below)

module _ (g : Cnot) where
  -- the rows after a row addition
  pub target_added : (rows : List ℕ) → g.target < length rows → get_or (add_row g rows) g.target 0 ≡ bit_xor (get_or rows g.target 0) (get_or rows g.control 0)
  unfolding add_row
  target_added rows within = get_or-set_same rows g.target _ 0 within

  pub others_kept : (rows : List ℕ) (r : ℕ) → (r ≡ g.target → ⊥) → get_or (add_row g rows) r 0 ≡ get_or rows r 0
  unfolding add_row
  others_kept rows r ne = get_or-set_other rows g.target r _ 0 ne

  pub row_turns : (rows : List ℕ) (x : ℕ) → g.target < length rows → image (add_row g rows) x ≡ turned g.control g.target (image rows x)
  row_turns rows x within =
      let c = g.control in
      let t = g.target in
      let y = image rows x in
      image_by_bits (add_row g rows) x (turned c t y) (λ i.
      ⊎_elim
      (λ e. subst (λ (k : ℕ). parity (get_or (add_row g rows) k 0) x ≡ bit (turned c t y) k) (sym e)
      (ap (λ (row : ℕ). parity row x) (target_added rows within) ∙ parity_xor (get_or rows t 0) (get_or rows c 0) x
      ∙ sym (turned_same c t y ∙ ap₂ (λ (a b : ℕ). (a + b) % 2) (bit_image rows x t) (bit_image rows x c))))
      (λ ne. ap (λ (row : ℕ). parity row x) (others_kept rows i ne) ∙ sym (turned_other c t y i ne ∙ bit_image rows x i))
      (cases_eq i t))

  pub column_turns : (rows : List ℕ) (x : ℕ) → image (add_column g rows) x ≡ image rows (turned g.control g.target x)
  unfolding image add_column
  column_turns [] x = refl
  column_turns (row ∷ rows) x = ap₂ (λ (a b : ℕ). a * 2 + b) (column_turns rows x) (parity_turns g.control g.target row x)

-- ---- sums of row words on n lines are words on n lines

module _ (g : Cnot) (n : ℕ) (rows : List ℕ) (size : length rows ≡ n) (below : (r : ℕ) → r < n → get_or rows r 0 < 2 ^ n) (legal : cnot_legal n g ≡ true) where
  pub row_added_below : (r : ℕ) → r < n → get_or (add_row g rows) r 0 < 2 ^ n
  row_added_below r h =
      let is = legal_says n g legal in
      let t = g.target in
      ⊎_elim
      (λ e. subst (λ (w : ℕ). w < 2 ^ n) (sym (ap (λ (k : ℕ). get_or (add_row g rows) k 0) e ∙ target_added g rows (omega (arith, is.target))))
      (xor_lt n (get_or rows t 0) (get_or rows g.control 0) (below t is.target) (below g.control is.control)))
      (λ ne. subst (λ (w : ℕ). w < 2 ^ n) (sym (others_kept g rows r ne)) (below r h))
      (cases_eq r t)

  pub column_added_below : (r : ℕ) → r < n → get_or (add_column g rows) r 0 < 2 ^ n
  unfolding add_column
  column_added_below r h =
      let turn = turned g.target g.control in
      subst (λ (w : ℕ). w < 2 ^ n) (sym (get_or-map turn rows r 0 0 (omega arith)))
      (turned_below g.target g.control (get_or rows r 0) n (legal_says n g legal).control (below r h))
