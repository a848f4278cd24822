-- The parity of the ones that two words share: it is a sum in either word, and with one bit it is that bit.
use Rattle.std.proofs.Common.{◌≡◌, ℕ, zero, suc, ◌+◌, ◌*◌, ◌/◌, ◌%◌, ◌^◌, ◌<◌, min, sym, refl, ap, ◌∙◌, ap₂, pow-suc, add-one, arith}
use lib.Arith.{bin_ind}
use lib.Bits.{bit_and, bit_xor, and_comm, and_shr, and_step, xor_shr, xor_add_and}
use lib.Count.{ones, ones_step}
use Rattle.words.specs.Words.{bit, parity}
use Rattle.words.proofs.Bits.{bit_lt, bit_of_xor, bit_of_and, bit_half, same_bits}

-- what holds of 0 and of 1 holds of a bit
pub digit_case : (b : ℕ) → b < 2 → (P : ℕ → Type 0) → P 0 → P 1 → P b
digit_case zero h P p q = p
digit_case (suc zero) h P p q = q
digit_case (suc (suc b)) h P p q = absurd (omega arith)

-- ---- the ones of a sum

none_added : (y : ℕ) → ones (bit_xor 0 y) % 2 ≡ (ones 0 + ones y) % 2
unfolding ones
none_added y = omega arith

lowest : (s a b r p q : ℕ) → s % 2 ≡ (a + b) % 2 → r % 2 ≡ (p + q) % 2 → (s % 2 + r) % 2 ≡ (a % 2 + p + (b % 2 + q)) % 2
lowest s a b r p q low rest = omega arith

ones_sum : (x y : ℕ) → ones (bit_xor x y) % 2 ≡ (ones x + ones y) % 2
ones_sum =
    bin_ind (λ (x : ℕ). (y : ℕ) → ones (bit_xor x y) % 2 ≡ (ones x + ones y) % 2)
    none_added
    (λ x ih y.
    ap (λ (z : ℕ). z % 2) (ones_step (bit_xor x y) ∙ ap (λ (z : ℕ). bit_xor x y % 2 + ones z) (xor_shr x y 1))
    ∙ lowest (bit_xor x y) x y (ones (bit_xor (x / 2) (y / 2))) (ones (x / 2)) (ones (y / 2)) (omega (arith, xor_add_and x y)) (ih (y / 2))
    ∙ ap₂ (λ (p q : ℕ). (p + q) % 2) (sym (ones_step x)) (sym (ones_step y)))

-- a mask of a sum is the sum of the masked words
mask_sum : (x y m : ℕ) → bit_and (bit_xor x y) m ≡ bit_xor (bit_and x m) (bit_and y m)
mask_sum x y m =
    same_bits _ _ (λ i.
    bit_of_and (bit_xor x y) m i ∙ ap (λ (b : ℕ). min b (bit m i)) (bit_of_xor x y i)
    ∙ digit_case (bit m i) (bit_lt m i) (λ (d : ℕ). min ((bit x i + bit y i) % 2) d ≡ (min (bit x i) d + min (bit y i) d) % 2)
    (omega arith) (omega arith)
    ∙ sym (bit_of_xor (bit_and x m) (bit_and y m) i ∙ ap₂ (λ (a b : ℕ). (a + b) % 2) (bit_of_and x m i) (bit_of_and y m i)))

-- ---- parities

pub parity_lt : (a x : ℕ) → parity a x < 2
parity_lt a x = omega arith

pub parity_comm : (a x : ℕ) → parity a x ≡ parity x a
parity_comm a x = ap (λ (z : ℕ). ones z % 2) (and_comm a x)

pub parity_none : (x : ℕ) → parity 0 x ≡ 0
unfolding ones
parity_none x = refl

pub parity_xor : (a b x : ℕ) → parity (bit_xor a b) x ≡ (parity a x + parity b x) % 2
parity_xor a b x = ap (λ (z : ℕ). ones z % 2) (mask_sum a b x) ∙ ones_sum (bit_and a x) (bit_and b x) ∙ omega arith

pub parity_xor_right : (a x y : ℕ) → parity a (bit_xor x y) ≡ (parity a x + parity a y) % 2
parity_xor_right a x y =
    parity_comm a (bit_xor x y) ∙ parity_xor x y a ∙ ap₂ (λ (p q : ℕ). (p + q) % 2) (parity_comm x a) (parity_comm y a)

-- the lowest bits, and the rest
parity_step : (a x : ℕ) → parity a x ≡ (min (a % 2) (x % 2) + parity (a / 2) (x / 2)) % 2
parity_step a x =
    let rest : ones (bit_and a x / 2) ≡ ones (bit_and (a / 2) (x / 2)) = ap ones (and_shr a x 1) in
    omega (arith, ones_step (bit_and a x), and_step a x)

-- with a power of two it is one bit
pub parity_power : (t x : ℕ) → parity (2 ^ t) x ≡ bit x t
parity_power zero x = omega (arith, parity_step 1 x, parity_none (x / 2))
parity_power (suc t) x =
    let twice : 2 ^ suc t ≡ 2 ^ t * 2 = pow-suc 2 t in
    let low : 2 ^ suc t % 2 ≡ 0 = omega arith in
    let high : 2 ^ suc t / 2 ≡ 2 ^ t = omega arith in
    let rest : parity (2 ^ t) (x / 2) ≡ bit x (suc t) = parity_power t (x / 2) ∙ bit_half x t ∙ ap (bit x) (add-one t) in
    parity_step (2 ^ suc t) x ∙ ap₂ (λ (p q : ℕ). (min p (x % 2) + parity q (x / 2)) % 2) low high ∙ omega (arith, rest)

pub parity_power_right : (x t : ℕ) → parity x (2 ^ t) ≡ bit x t
parity_power_right x t = parity_comm x (2 ^ t) ∙ parity_power t x
