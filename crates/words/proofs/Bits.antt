-- Words by their bits: each operation bit by bit, and two words with the same bits are equal.
use Rattle.std.proofs.Common.{◌≡◌, ℕ, zero, suc, ◌+◌, ◌-◌, ◌/◌, ◌%◌, ◌^◌, ◌<◌, ◌≤◌, min, eqb, sym, refl, ap, ◌∙◌, ⊎_elim, lt_of_lt_of_le, add_comm, one-mul, pow-suc, div-one, arith, pow_mono, pow-add, shr-shr}
use mathlib.Core.Bool.{xor}
use native.Mathlib.Nat.{zero-div, div-eq_of_lt, mul-mod_left}
use lib.Arith.{bin_ind}
use lib.Bits.{bit_and, bit_xor, and_shr, and_step, xor_shr, xor_add_and}
use lib.Pow.{pow-lt, shl-shr}
use Rattle.std.proofs.lemmas.Bool.{cases_lt}
use Rattle.words.specs.Words.{bit, has}

pub bit_lt : (x i : ℕ) → bit x i < 2
bit_lt x i = omega arith

pub bit_of_xor : (x y i : ℕ) → bit (bit_xor x y) i ≡ (bit x i + bit y i) % 2
bit_of_xor x y i = ap (λ (z : ℕ). z % 2) (xor_shr x y i) ∙ omega (arith, xor_add_and (x / 2 ^ i) (y / 2 ^ i))

pub bit_of_and : (x y i : ℕ) → bit (bit_and x y) i ≡ min (bit x i) (bit y i)
bit_of_and x y i = ap (λ (z : ℕ). z % 2) (and_shr x y i) ∙ omega (arith, and_step (x / 2 ^ i) (y / 2 ^ i))

digit_sum : (a b : ℕ) → a < 2 → b < 2 → eqb ((a + b) % 2) 1 ≡ xor (eqb a 1) (eqb b 1)
unfolding xor
digit_sum zero zero ha hb = refl
digit_sum zero (suc zero) ha hb = refl
digit_sum (suc zero) zero ha hb = refl
digit_sum (suc zero) (suc zero) ha hb = refl
digit_sum zero (suc (suc b)) ha hb = absurd (omega arith)
digit_sum (suc zero) (suc (suc b)) ha hb = absurd (omega arith)
digit_sum (suc (suc a)) b ha hb = absurd (omega arith)

pub has_xor : (x y i : ℕ) → has (bit_xor x y) i ≡ xor (has x i) (has y i)
has_xor x y i = ap (λ (b : ℕ). eqb b 1) (bit_of_xor x y i) ∙ digit_sum (bit x i) (bit y i) (bit_lt x i) (bit_lt y i)

-- ---- the lowest bit, and those above it

pub bit_lowest : (x : ℕ) → bit x 0 ≡ x % 2
bit_lowest x = ap (λ (z : ℕ). z % 2) (div-one x)

pub bit_half : (x i : ℕ) → bit (x / 2) i ≡ bit x (i + 1)
bit_half x i = ap (λ (z : ℕ). z % 2) (shr-shr x 1 i ∙ ap (λ (k : ℕ). x / 2 ^ k) (add_comm 1 i))

-- ---- words by their bits

pub bit_none : (i : ℕ) → bit 0 i ≡ 0
bit_none i = ap (λ (z : ℕ). z % 2) (zero-div (2 ^ i))

pub no_bits : (x : ℕ) → ((i : ℕ) → bit x i ≡ 0) → x ≡ 0
no_bits =
    bin_ind (λ x. ((i : ℕ) → bit x i ≡ 0) → x ≡ 0) (λ h. omega arith)
    (λ x ih h.
    let high : x / 2 ≡ 0 = ih (λ i. bit_half x i ∙ h (i + 1)) in
    let low : x % 2 ≡ 0 = sym (bit_lowest x) ∙ h 0 in
    omega arith)

pub same_bits : (x y : ℕ) → ((i : ℕ) → bit x i ≡ bit y i) → x ≡ y
same_bits =
    bin_ind (λ x. (y : ℕ) → ((i : ℕ) → bit x i ≡ bit y i) → x ≡ y)
    (λ y h. sym (no_bits y (λ i. sym (h i) ∙ bit_none i)))
    (λ x ih y h.
    let high : x / 2 ≡ y / 2 = ih (y / 2) (λ i. bit_half x i ∙ h (i + 1) ∙ sym (bit_half y i)) in
    let low : x % 2 ≡ y % 2 = sym (bit_lowest x) ∙ h 0 ∙ bit_lowest y in
    omega arith)

-- a word on n lines has no bit at n or above
pub bit_above : (n x i : ℕ) → x < 2 ^ n → n ≤ i → bit x i ≡ 0
bit_above n x i h k = ap (λ (z : ℕ). z % 2) (div-eq_of_lt (lt_of_lt_of_le h (pow_mono k)))

-- ---- powers of two, which have one bit

pub bit_power : (t : ℕ) → bit (2 ^ t) t ≡ 1
bit_power t = ap (λ (z : ℕ). z % 2) (ap (λ (z : ℕ). z / 2 ^ t) (sym (one-mul (2 ^ t))) ∙ shl-shr 1 t)

power_below : (t i : ℕ) → i < t → bit (2 ^ t) i ≡ 0
power_below t i h =
    let d = t - suc i in
    let e : t ≡ suc d + i = omega arith in
    ap (λ (k : ℕ). 2 ^ k / 2 ^ i % 2) e
    ∙ ap (λ (z : ℕ). z / 2 ^ i % 2) (pow-add 2 (suc d) i)
    ∙ ap (λ (z : ℕ). z % 2) (shl-shr (2 ^ suc d) i ∙ pow-suc 2 d)
    ∙ mul-mod_left (2 ^ d) 2

pub bit_power_other : (t i : ℕ) → (i ≡ t → ⊥) → bit (2 ^ t) i ≡ 0
bit_power_other t i ne =
    ⊎_elim (power_below t i)
    (λ h. let k : t < i = omega arith in ap (λ (z : ℕ). z % 2) (div-eq_of_lt (pow-lt k)))
    (cases_lt i t)
