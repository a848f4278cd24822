-- The ones of words, and those that another word lacks.
use Rattle.std.proofs.Common.{◌≡◌, ℕ, ◌+◌, ◌-◌, ◌/◌, ◌%◌, ◌^◌, ◌<◌, min, max, refl, ap, ◌∙◌, mod-eq_of_lt, arith}
use lib.Arith.{bin_ind}
use lib.Bits.{bit_and, bit_or, bit_xor, and_comm, and_mask, or_shr, or_step, xor_add_and}
use lib.Count.{ones, ones_step}
use Rattle.words.specs.Words.{bit}
use Rattle.words.proofs.Bits.{bit_lt, bit_of_and, bit_of_xor, bit_half, bit_lowest, bit_none, no_bits, same_bits}
use Rattle.mapping.specs.Ones.{outside}

pub bit_of_or : (x y i : ℕ) → bit (bit_or x y) i ≡ max (bit x i) (bit y i)
bit_of_or x y i = ap (λ (z : ℕ). z % 2) (or_shr x y i) ∙ omega (arith, or_step (x / 2 ^ i) (y / 2 ^ i))

pub and_and : (a c : ℕ) → bit_and a (bit_and a c) ≡ bit_and a c
and_and a c = same_bits _ _ (λ i. omega (arith, bit_of_and a (bit_and a c) i, bit_of_and a c i))

pub and_assoc : (a b c : ℕ) → bit_and (bit_and a b) c ≡ bit_and a (bit_and b c)
and_assoc a b c = same_bits _ _ (λ i. omega (arith, bit_of_and (bit_and a b) c i, bit_of_and a b i, bit_of_and a (bit_and b c) i, bit_of_and b c i))

pub outside_xor : (a c : ℕ) → outside a c ≡ bit_xor a (bit_and a c)
outside_xor a c = omega (arith, xor_add_and a (bit_and a c), and_and a c)

pub bit_outside : (a c i : ℕ) → bit (outside a c) i ≡ bit a i - min (bit a i) (bit c i)
bit_outside a c i = ap (λ (z : ℕ). bit z i) (outside_xor a c) ∙ omega (arith, bit_of_xor a (bit_and a c) i, bit_of_and a c i)

-- a word without the ones of another, on eight lines
pub and_not : (a c : ℕ) → a < 256 → c < 256 → bit_and a (255 - c) ≡ outside a c
and_not a c ha hc =
    let whole : (w : ℕ) → w < 256 → bit_and w 255 ≡ w = λ w h. and_mask w 8 ∙ mod-eq_of_lt h in
    let not-c : 255 - c ≡ bit_xor 255 c = omega (arith, xor_add_and 255 c, and_comm 255 c, whole c hc) in
    ap (bit_and a) not-c
    ∙ same_bits _ _ (λ i.
    omega (
      arith,
      bit_of_and a (bit_xor 255 c) i,
      bit_of_xor 255 c i,
      bit_outside a c i,
      bit_of_and a 255 i,
      ap (λ (w : ℕ). bit w i) (whole a ha),
      bit_lt a i,
      bit_lt c i,
      bit_lt 255 i,
    ))

pub no_ones : ones 0 ≡ 0
unfolding ones
no_ones = refl

-- two words whose bits make up those of a third
pub ones_split : (d a b : ℕ) → ((i : ℕ) → bit a i + bit b i ≡ bit d i) → ones a + ones b ≡ ones d
ones_split =
    bin_ind (λ (d : ℕ). (a b : ℕ) → ((i : ℕ) → bit a i + bit b i ≡ bit d i) → ones a + ones b ≡ ones d)
    (λ a b h.
    let ea : a ≡ 0 = no_bits a (λ i. omega (arith, h i, bit_none i)) in
    let eb : b ≡ 0 = no_bits b (λ i. omega (arith, h i, bit_none i)) in
    omega (arith, ap ones ea, ap ones eb, no_ones))
    (λ d ih a b h.
    let rest : ones (a / 2) + ones (b / 2) ≡ ones (d / 2) = ih (a / 2) (b / 2) (λ i. omega (arith, h (i + 1), bit_half a i, bit_half b i, bit_half d i)) in
    omega (arith, ones_step a, ones_step b, ones_step d, h 0, bit_lowest a, bit_lowest b, bit_lowest d))
