-- The image of a word by its bits. It is a word on as many lines as there are rows, and a sum of words has the sum of their images.
use Rattle.std.proofs.Common.{◌≡◌, ℕ, zero, suc, ◌+◌, ◌*◌, ◌/◌, ◌%◌, ◌^◌, ◌<◌, List, [], ◌∷◌, ◌++◌, length, get_or, take, sym, ap, ◌∙◌, subst, ap₂, mul_assoc, add_comm, pow-suc, add-one, arith}
use lib.Bits.{bit_or, bit_xor, xor_self, or_shifted_r}
use Rattle.std.proofs.lemmas.Nat.{shl_whole}
use Rattle.std.proofs.lemmas.List.{length-take-le, take_more}
use Rattle.words.specs.Words.{bit, parity}
use Rattle.words.proofs.Bits.{bit_of_xor, bit_none, bit_lowest, bit_half, same_bits}
use Rattle.words.proofs.Parities.{parity_lt, parity_none, parity_xor_right, parity_power_right}
use Rattle.matrices.specs.Matrices.{image}

pub bit_image : (rows : List ℕ) (x r : ℕ) → bit (image rows x) r ≡ parity (get_or rows r 0) x
unfolding image
bit_image [] x r = bit_none r ∙ sym (parity_none x)
bit_image (row ∷ rows) x zero =
    bit_lowest (image rows x * 2 + parity row x) ∙ omega (arith, parity_lt row x)
bit_image (row ∷ rows) x (suc r) =
    let w = image rows x * 2 + parity row x in
    let half : w / 2 ≡ image rows x = omega (arith, parity_lt row x) in
    ap (bit w) (sym (add-one r)) ∙ sym (bit_half w r) ∙ ap (λ (v : ℕ). bit v r) half ∙ bit_image rows x r

pub image_lt : (rows : List ℕ) (x : ℕ) → image rows x < 2 ^ length rows
unfolding image
image_lt [] x = omega arith
image_lt (row ∷ rows) x = omega (arith, pow-suc 2 (length rows), image_lt rows x, parity_lt row x)

module _ (rows : List ℕ) where
  pub image_by_bits : (x y : ℕ) → ((i : ℕ) → parity (get_or rows i 0) x ≡ bit y i) → image rows x ≡ y
  image_by_bits x y h = same_bits _ _ (λ i. bit_image rows x i ∙ h i)

  pub image_sum : (x y : ℕ) → image rows (bit_xor x y) ≡ bit_xor (image rows x) (image rows y)
  image_sum x y =
      image_by_bits (bit_xor x y) _ (λ i.
      parity_xor_right (get_or rows i 0) x y
      ∙ sym (bit_of_xor (image rows x) (image rows y) i ∙ ap₂ (λ (a b : ℕ). (a + b) % 2) (bit_image rows x i) (bit_image rows y i)))

  pub image_none : image rows 0 ≡ 0
  image_none = image_sum 0 0 ∙ xor_self (image rows 0)

  -- column c is the image of the unit word of line c
  pub bit_column : (r c : ℕ) → bit (image rows (2 ^ c)) r ≡ bit (get_or rows r 0) c
  bit_column r c = bit_image rows (2 ^ c) r ∙ parity_power_right (get_or rows r 0) c

-- one row more gives the highest bit
pub image_push : (rows : List ℕ) (row x : ℕ) → image (rows ++ row ∷ []) x ≡ image rows x + parity row x * 2 ^ length rows
unfolding image
image_push [] row x = omega arith
image_push (first ∷ rows) row x =
    let shift : parity row x * 2 ^ suc (length rows) ≡ parity row x * 2 ^ length rows * 2
    = ap (λ (p : ℕ). parity row x * p) (pow-suc 2 (length rows)) ∙ sym (mul_assoc (parity row x) (2 ^ length rows) 2) in
    omega (arith, image_push rows row x)

-- a loop's step, which puts in the bit of one row more
pub image_more : (rows : List ℕ) (r x y p : ℕ) → r < length rows → r < 64 → y ≡ image (take r rows) x → p ≡ parity (get_or rows r 0) x
    → bit_or y ((p * 2 ^ r) % 2 ^ 64) ≡ image (take (r + 1) rows) x
image_more rows r x y p h few ey ep =
    let front = take r rows in
    let size : length front ≡ r = length-take-le r rows (omega arith) in
    let digit : p < 2 = omega (arith, parity_lt (get_or rows r 0) x) in
    let whole : (p * 2 ^ r) % 2 ^ 64 ≡ p * 2 ^ r = shl_whole p 1 r 64 digit (omega arith) in
    let low : y < 2 ^ r = subst (λ (k : ℕ). y < 2 ^ k) size (subst (λ (w : ℕ). w < 2 ^ length front) (sym ey) (image_lt front x)) in
    ap (bit_or y) whole ∙ or_shifted_r p r y low ∙ add_comm (p * 2 ^ r) y
    ∙ ap₂ (λ (a b : ℕ). a + b * 2 ^ r) ey ep
    ∙ sym (ap (λ (rs : List ℕ). image rs x) (take_more rows r 0 h) ∙ image_push front (get_or rows r 0) x
    ∙ ap (λ (k : ℕ). image front x + parity (get_or rows r 0) x * 2 ^ k) size)
