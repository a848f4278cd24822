-- The unit rows, which are the rows of identity and of no other map.
use Rattle.std.proofs.Common.{◌≡◌, ℕ, zero, suc, ◌+◌, ◌^◌, ◌<◌, List, length, get_or, sym, refl, ap, ◌∙◌, ⊎_elim, zero-add, arith}
use lib.Pow.{pow-lt}
use Rattle.std.proofs.lemmas.List.{get_or_past, ext_get_or}
use Rattle.std.proofs.lemmas.Bool.{cases_lt}
use Rattle.words.specs.Words.{bit, parity}
use Rattle.words.specs.Maps.{Identity}
use Rattle.words.proofs.Bits.{bit_above, same_bits}
use Rattle.words.proofs.Parities.{parity_comm, parity_none, parity_power}
use Rattle.matrices.specs.Matrices.{image, unit_rows}
use Rattle.matrices.proofs.Images.{bit_column, image_by_bits}

pub length_units : (r k : ℕ) → length (unit_rows r k) ≡ k
unfolding unit_rows
length_units r zero = refl
length_units r (suc k) = ap suc (length_units (suc r) k)

pub unit_at : (r k i : ℕ) → i < k → get_or (unit_rows r k) i 0 ≡ 2 ^ (r + i)
unfolding unit_rows
unit_at r zero i h = absurd (omega arith)
unit_at r (suc k) zero h = ap (λ (e : ℕ). 2 ^ e) (omega arith)
unit_at r (suc k) (suc i) h = unit_at (suc r) k i (omega arith) ∙ ap (λ (e : ℕ). 2 ^ e) (omega arith)

pub units_by_rows : (n : ℕ) (rows : List ℕ) → length rows ≡ n → ((r : ℕ) → r < n → get_or rows r 0 ≡ 2 ^ r) → rows ≡ unit_rows 0 n
units_by_rows n rows size units =
    ext_get_or 0 rows (unit_rows 0 n) (size ∙ sym (length_units 0 n))
    (λ i h. let l : i < n = omega arith in units i l ∙ sym (unit_at 0 n i l ∙ ap (λ (e : ℕ). 2 ^ e) (zero-add i)))

-- bit i of the unit word of line j, the other way round
powers_meet : (i j : ℕ) → bit (2 ^ j) i ≡ bit (2 ^ i) j
powers_meet i j = sym (parity_power i (2 ^ j)) ∙ parity_comm (2 ^ i) (2 ^ j) ∙ parity_power j (2 ^ i)

module _ (n : ℕ) (rows : List ℕ) (size : length rows ≡ n) where
  pub identity_by_rows : ((r : ℕ) → r < n → get_or rows r 0 ≡ 2 ^ r) → Identity n (image rows)
  identity_by_rows units x xn =
      image_by_bits rows x x (λ i.
      ⊎_elim (λ h. ap (λ (row : ℕ). parity row x) (units i h) ∙ parity_power i x)
      (λ h. ap (λ (row : ℕ). parity row x) (get_or_past rows i 0 (omega arith)) ∙ parity_none x ∙ sym (bit_above n x i xn h))
      (cases_lt i n))

  pub rows_by_identity : ((r : ℕ) → r < n → get_or rows r 0 < 2 ^ n) → Identity n (image rows) → (r : ℕ) → r < n → get_or rows r 0 ≡ 2 ^ r
  rows_by_identity below is r h =
      same_bits _ _ (λ j.
      ⊎_elim (λ l. sym (bit_column rows r j) ∙ ap (λ (w : ℕ). bit w r) (is (2 ^ j) (pow-lt l)) ∙ powers_meet r j)
      (λ l. bit_above n (get_or rows r 0) j (below r h) l ∙ sym (bit_above n (2 ^ r) j (pow-lt h) l))
      (cases_lt j n))
