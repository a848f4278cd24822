-- What a word keeps when one of its bits is flipped, and words of 64 bits.
use Rattle.std.proofs.Common.{◌≡◌, ℕ, ◌^◌, ◌<◌, ◌≤◌, min, ltb, sym, ap, ◌∙◌, ⊎_elim, lt_of_lt_of_le, arith, lit<}
use native.Mathlib.Nat.{pow-le-pow_right}
use lib.Bits.{bit_and, bit_xor, xor_assoc, xor_self, xor_zero_r}
use Rattle.std.proofs.lemmas.Bool.{cases_eq, cond-true, lt-ltb}
use Rattle.words.specs.Words.{bit, unit}
use Rattle.words.proofs.Bits.{bit_of_xor, bit_of_and, bit_power_other, same_bits}

-- a flip changes no other bit
pub flip_other : (w t i : ℕ) → (i ≡ t → ⊥) → bit (bit_xor w (2 ^ t)) i ≡ bit w i
flip_other w t i ne = omega (arith, bit_of_xor w (2 ^ t) i, bit_power_other t i ne)

pub flip_twice : (w v : ℕ) → bit_xor (bit_xor w v) v ≡ w
flip_twice w v = xor_assoc w v v ∙ ap (bit_xor w) (xor_self v) ∙ xor_zero_r w

-- a mask that lacks a bit does not see it flipped
pub mask_flip : (w m t : ℕ) → bit m t ≡ 0 → bit_and (bit_xor w (2 ^ t)) m ≡ bit_and w m
mask_flip w m t lacks =
    same_bits _ _ (λ i.
    bit_of_and (bit_xor w (2 ^ t)) m i
    ∙ ⊎_elim
    (λ e. let z : bit m i ≡ 0 = ap (bit m) e ∙ lacks in omega arith)
    (λ ne. ap (λ (b : ℕ). min b (bit m i)) (flip_other w t i ne))
    (cases_eq i t)
    ∙ sym (bit_of_and w m i))

-- every word of 64 bits is one on 64 lines and more
pub wide_word : (n w : ℕ) → 64 ≤ n → w < 2 ^ 64 → w < 2 ^ n
wide_word n w h k = lt_of_lt_of_le k (pow-le-pow_right (lit< tt) h)

pub unit_power : (i : ℕ) → i < 64 → unit i ≡ 2 ^ i
unit_power i h = cond-true (ltb i 64) (2 ^ i) 0 (lt-ltb i 64 h)
