-- Linear maps that agree on the unit words agree on every word.
use Rattle.std.proofs.Common.{◌≡◌, ℕ, zero, suc, ◌+◌, ◌-◌, ◌*◌, ◌^◌, ◌<◌, ◌≤◌, sym, ap, ◌∙◌, ⊎_elim, one-mul, pow-suc, arith, pow_pos, pow_mono}
use lib.Bits.{bit_xor, xor_self, xor_shifted}
use lib.Pow.{pow-lt}
use Rattle.std.proofs.lemmas.Bool.{cases_lt}
use Rattle.words.specs.Maps.{Same, Linear}

zero_word : (n : ℕ) (f : ℕ → ℕ) → Linear n f → f 0 ≡ 0
zero_word n f lin = lin 0 0 (pow_pos n) (pow_pos n) ∙ xor_self (f 0)

-- a word with its highest line is the unit word of that line added to the rest
top_line : (k r : ℕ) → r < 2 ^ k → 2 ^ k + r ≡ bit_xor (2 ^ k) r
top_line k r h = sym (ap (λ (p : ℕ). bit_xor p r) (sym (one-mul (2 ^ k))) ∙ xor_shifted 1 k r h ∙ ap (λ (p : ℕ). p + r) (one-mul (2 ^ k)))

module _ (n : ℕ) (f g : ℕ → ℕ) (lin-f : Linear n f) (lin-g : Linear n g) (units : (i : ℕ) → i < n → f (2 ^ i) ≡ g (2 ^ i)) where
  with_top : (k r : ℕ) → k < n → r < 2 ^ k → f r ≡ g r → f (2 ^ k + r) ≡ g (2 ^ k + r)
  with_top k r kn rk e =
      let le : 2 ^ k ≤ 2 ^ n = pow_mono (omega arith) in
      let rest : r < 2 ^ n = omega arith in
      let split = top_line k r rk in
      ap f split ∙ lin-f (2 ^ k) r (pow-lt kn) rest
      ∙ ap (λ (x : ℕ). bit_xor x (f r)) (units k kn) ∙ ap (bit_xor (g (2 ^ k))) e
      ∙ sym (ap g split ∙ lin-g (2 ^ k) r (pow-lt kn) rest)

  below : (k : ℕ) → k ≤ n → Same k f g
  below zero kn w wk =
      let z : w ≡ 0 = omega arith in
      ap f z ∙ zero_word n f lin-f ∙ sym (ap g z ∙ zero_word n g lin-g)
  below (suc k) kn w wk =
      ⊎_elim (below k (omega arith) w)
      (λ ge.
      let double : 2 ^ suc k ≡ 2 ^ k * 2 = pow-suc 2 k in
      let rest : w - 2 ^ k < 2 ^ k = omega arith in
      let is : w ≡ 2 ^ k + (w - 2 ^ k) = omega arith in
      ap f is ∙ with_top k (w - 2 ^ k) (omega arith) rest (below k (omega arith) (w - 2 ^ k) rest) ∙ sym (ap g is))
      (cases_lt w (2 ^ k))

  pub by_units : Same n f g
  by_units = below n (omega arith)
