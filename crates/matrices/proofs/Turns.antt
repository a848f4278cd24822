-- A word whose bit t is flipped where its bit c is 1: its bits, and its parity with another word.
use Rattle.std.proofs.Common.{◌≡◌, ℕ, ◌+◌, ◌%◌, ◌^◌, ◌<◌, min, cond, eqb, sym, refl, ap, ◌∙◌, subst, ap₂, ⊎_elim, arith}
use lib.Bits.{bit_xor, xor_lt}
use lib.Pow.{pow-lt}
use Rattle.std.proofs.lemmas.Bool.{cases_eq, cond_both}
use Rattle.words.specs.Words.{bit, has, parity}
use Rattle.words.proofs.Bits.{bit_lt, bit_of_xor, bit_none, bit_power, bit_power_other, same_bits}
use Rattle.words.proofs.Parities.{digit_case, parity_comm, parity_xor, parity_power}

abbrev pub turned : ℕ → ℕ → ℕ → ℕ
turned c t w = cond (has w c) (bit_xor w (2 ^ t)) w

module _ (c t w : ℕ) where
  -- bit c tells whether the word of line t is added
  turned_by : (P : ℕ → ℕ → Type 0) → P 0 w → P 1 (bit_xor w (2 ^ t)) → P (bit w c) (turned c t w)
  turned_by P stays flips = digit_case (bit w c) (bit_lt w c) (λ (d : ℕ). P d (cond (eqb d 1) (bit_xor w (2 ^ t)) w)) stays flips

  pub turned_same : bit (turned c t w) t ≡ (bit w t + bit w c) % 2
  turned_same =
      turned_by (λ (d v : ℕ). bit v t ≡ (bit w t + d) % 2) (omega arith)
      (bit_of_xor w (2 ^ t) t ∙ ap (λ (b : ℕ). (bit w t + b) % 2) (bit_power t))

  pub turned_other : (i : ℕ) → (i ≡ t → ⊥) → bit (turned c t w) i ≡ bit w i
  turned_other i ne =
      turned_by (λ (d v : ℕ). bit v i ≡ bit w i) refl (omega (arith, bit_of_xor w (2 ^ t) i, bit_power_other t i ne))

  pub turned_below : (n : ℕ) → t < n → w < 2 ^ n → turned c t w < 2 ^ n
  turned_below n tn wn =
      cond_both (has w c) (bit_xor w (2 ^ t)) w (λ v. v < 2 ^ n) (λ _. xor_lt n w (2 ^ t) wn (pow-lt tn)) (λ _. wn)

  pub turned_idle : bit w c ≡ 0 → turned c t w ≡ w
  turned_idle e = ap (λ (b : ℕ). cond (eqb b 1) (bit_xor w (2 ^ t)) w) e

  parity_turned : (x : ℕ) → parity (turned c t w) x ≡ (parity w x + min (bit w c) (bit x t)) % 2
  parity_turned x =
      turned_by (λ (d v : ℕ). parity v x ≡ (parity w x + min d (bit x t)) % 2) (omega arith)
      (parity_xor w (2 ^ t) x ∙ ap (λ (b : ℕ). (parity w x + b) % 2) (parity_power t x) ∙ omega arith)

-- a row that is turned shares with a word what the row shares with the word that is turned the other way
pub parity_turns : (c t row x : ℕ) → parity (turned t c row) x ≡ parity row (turned c t x)
parity_turns c t row x =
    parity_turned t c row x
    ∙ sym (parity_comm row (turned c t x) ∙ parity_turned c t x row
    ∙ ap (λ (p : ℕ). (p + min (bit x c) (bit row t)) % 2) (parity_comm x row) ∙ omega arith)

module _ (c t : ℕ) (differ : c ≡ t → ⊥) where
  pub turned_twice : (w : ℕ) → turned c t (turned c t w) ≡ w
  turned_twice w =
      let v = turned c t w in
      same_bits _ _ (λ i.
      ⊎_elim
      (λ e. subst (λ (k : ℕ). bit (turned c t v) k ≡ bit w k) (sym e)
      (turned_same c t v ∙ ap₂ (λ (a b : ℕ). (a + b) % 2) (turned_same c t w) (turned_other c t w c differ) ∙ omega arith))
      (λ ne. turned_other c t v i ne ∙ turned_other c t w i ne)
      (cases_eq i t))

  -- only 0 comes to 0
  pub turned_single : (w : ℕ) → turned c t w ≡ 0 → w ≡ 0
  turned_single w e = sym (turned_twice w) ∙ ap (turned c t) e ∙ turned_idle c t 0 (bit_none c)
