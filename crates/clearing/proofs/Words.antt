-- Bits as truth values: those of unit words and of words with one bit turned, and words by their bits.
use Rattle.std.proofs.Common.{◌≡◌, ℕ, suc, ◌/◌, ◌^◌, ◌<◌, Bool, true, false, ◌&&◌, eqb, sym, refl, ap, ◌∙◌, inl, inr, add-one}
use mathlib.Core.Bool.{xor, and-true, and-false}
use lib.Bits.{bit_xor}
use lib.Count.{ones, ones_in}
use Rattle.std.proofs.lemmas.Bool.{cases_eq, cases_lt, cases_Bool, eq-eqb, ne_eqb, cond-true, cond-false}
use Rattle.words.specs.Words.{bit, has}
use Rattle.words.proofs.Bits.{bit_lt, bit_none, bit_half, bit_above, bit_power, bit_power_other, same_bits, has_xor}
use Rattle.words.proofs.Parities.{digit_case}
use Rattle.matrices.proofs.Turns.{turned}
use Rattle.clearing.specs.Clearing.{one}

pub eqb_flip : (a b : ℕ) → eqb a b ≡ eqb b a
eqb_flip a b =
    elim (cases_eq a b) [ inl p ↦ eq-eqb a b p ∙ sym (eq-eqb b a (sym p)) | inr q ↦ ne_eqb a b q ∙ sym (ne_eqb b a (λ p. q (sym p))) ]

pub xor_false : (b : Bool) → xor b false ≡ b
unfolding xor
xor_false true = refl
xor_false false = refl

pub false_xor : (b : Bool) → xor false b ≡ b
unfolding xor
false_xor true = refl
false_xor false = refl

pub ones_none : ones 0 ≡ 0
unfolding ones ones_in
ones_none = refl

pub has_none : (k : ℕ) → has 0 k ≡ false
has_none k = ap (λ (b : ℕ). eqb b 1) (bit_none k)

pub has_half : (w k : ℕ) → has w (suc k) ≡ has (w / 2) k
has_half w k = ap (λ (b : ℕ). eqb b 1) (ap (bit w) (sym (add-one k)) ∙ sym (bit_half w k))

pub has_power : (t k : ℕ) → has (2 ^ t) k ≡ eqb t k
has_power t k =
    elim (cases_eq t k) [
      | inl p ↦ ap (λ (b : ℕ). eqb b 1) (ap (bit (2 ^ t)) (sym p) ∙ bit_power t) ∙ sym (eq-eqb t k p)
      | inr q ↦ ap (λ (b : ℕ). eqb b 1) (bit_power_other t k (λ p. q (sym p))) ∙ sym (ne_eqb t k q)
    ]

pub digit_one : (d : ℕ) → d < 2 → d ≡ one (eqb d 1)
digit_one d h = digit_case d h (λ (b : ℕ). b ≡ one (eqb b 1)) refl refl

-- words on n lines with the same bits are equal
pub same_has : (n a b : ℕ) → a < 2 ^ n → b < 2 ^ n → ((k : ℕ) → k < n → has a k ≡ has b k) → a ≡ b
same_has n a b ha hb h =
    same_bits a b (λ i.
    elim (cases_lt i n) [
      | inl l ↦ digit_one (bit a i) (bit_lt a i) ∙ ap one (h i l) ∙ sym (digit_one (bit b i) (bit_lt b i))
      | inr l ↦ bit_above n a i ha l ∙ sym (bit_above n b i hb l)
    ])

pub has_turned : (c t x k : ℕ) → has (turned c t x) k ≡ xor (has x k) (eqb t k && has x c)
has_turned c t x k =
    elim (cases_Bool (has x c)) [
      | inl e ↦
          ap (λ (w : ℕ). has w k) (cond-true (has x c) (bit_xor x (2 ^ t)) x e) ∙ has_xor x (2 ^ t) k
          ∙ ap (xor (has x k)) (has_power t k ∙ sym (ap (λ (b : Bool). eqb t k && b) e ∙ and-true (eqb t k)))
      | inr e ↦
          ap (λ (w : ℕ). has w k) (cond-false (has x c) (bit_xor x (2 ^ t)) x e)
          ∙ sym (ap (xor (has x k)) (ap (λ (b : Bool). eqb t k && b) e ∙ and-false (eqb t k)) ∙ xor_false (has x k))
    ]
