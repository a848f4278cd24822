-- The highest bit of a word, and words without it.
use Rattle.std.proofs.Common.{◌≡◌, ℕ, suc, ◌+◌, ◌-◌, ◌*◌, ◌/◌, ◌%◌, ◌^◌, ◌<◌, ◌≤◌, sym, ap, ◌∙◌, ap₂, ⊎_elim, mod-lt, pow-suc, arith, pow_pos, shr-shr}
use native.Mathlib.Nat.{div-eq_of_lt-le}
use lib.Bits.{bit_xor, xor_lt}
use lib.Count.{count_leading_zeros, leading_top}
use lib.Pow.{split}
use Rattle.std.proofs.lemmas.Bool.{cases_lt}
use Rattle.words.specs.Words.{bit}
use Rattle.words.proofs.Bits.{bit_of_xor, bit_none, bit_above, same_bits}
use Rattle.words.proofs.Flips.{flip_twice}

-- a word with no bit at n or above is one on n lines
pub below_by_bits : (n x : ℕ) → ((i : ℕ) → n ≤ i → bit x i ≡ 0) → x < 2 ^ n
below_by_bits n x h =
    let none : x / 2 ^ n ≡ 0 = same_bits (x / 2 ^ n) 0 (λ i. ap (λ (z : ℕ). z % 2) (shr-shr x n i) ∙ h (n + i) (omega arith) ∙ sym (bit_none i)) in
    let whole : 0 * 2 ^ n + x % 2 ^ n ≡ x = ap (λ (d : ℕ). d * 2 ^ n + x % 2 ^ n) (sym none) ∙ split x n in
    omega (arith, mod-lt x (pow_pos n))

-- without its highest bit a word needs a line less
pub drop_top : (t x : ℕ) → x < 2 ^ suc t → bit x t ≡ 0 → x < 2 ^ t
drop_top t x l e =
    below_by_bits t x (λ i h.
    ⊎_elim (λ above. bit_above (suc t) x i l above)
    (λ low. let here : i ≡ t = omega arith in ap (bit x) here ∙ e)
    (cases_lt t i))

-- the sum of two words that share their highest bit lacks it
pub without_top : (t x y : ℕ) → x < 2 ^ suc t → y < 2 ^ suc t → bit x t ≡ 1 → bit y t ≡ 1 → bit_xor x y < 2 ^ t
without_top t x y lx ly ex ey =
    drop_top t (bit_xor x y) (xor_lt (suc t) x y lx ly) (bit_of_xor x y t ∙ ap₂ (λ (a b : ℕ). (a + b) % 2) ex ey)

-- words whose sum is 0 are equal
pub equal_by_sum : (x y : ℕ) → bit_xor x y ≡ 0 → x ≡ y
equal_by_sum x y e = sym (flip_twice x y) ∙ ap (λ (z : ℕ). bit_xor z y) e

-- the leading zeros of a word tell its highest bit
pub top_bit : (x : ℕ) → 0 < x → x < 2 ^ 64 → bit x (63 - count_leading_zeros 64 x) ≡ 1
top_bit x p l =
    let t = leading_top 64 x p l in
    let j = t.0 in
    let place : 63 - count_leading_zeros 64 x ≡ j = omega (arith, t.1) in
    let one : x / 2 ^ j ≡ 1 = div-eq_of_lt-le (2 ^ j) (omega (arith, t.2)) (omega (arith, t.3, pow-suc 2 j)) in
    ap (bit x) place ∙ ap (λ (z : ℕ). z % 2) one
