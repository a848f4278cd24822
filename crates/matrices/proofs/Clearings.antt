-- How a column becomes that of identity: it has a pivot, which clears the other rows.
use Rattle.std.proofs.Common.{◌≡◌, ℕ, suc, ◌+◌, ◌%◌, ◌^◌, ◌<◌, ◌≤◌, true, get_or, sym, refl, ap, ◌∙◌, subst, ap₂, ⊎_elim, add-one, arith, below_more}
use lib.Bits.{bit_xor, xor_lt, xor_self}
use lib.Pow.{pow-lt}
use Rattle.std.proofs.lemmas.List.{get_or_past}
use Rattle.std.proofs.lemmas.Bool.{cases_eq, cases_lt}
use Rattle.words.specs.Words.{bit}
use Rattle.words.specs.Maps.{Identity}
use Rattle.words.proofs.Bits.{bit_lt, bit_none, bit_above, bit_power, bit_power_other, same_bits}
use Rattle.words.proofs.Flips.{flip_twice}
use Rattle.words.proofs.Parities.{digit_case}
use Rattle.words.proofs.Tops.{below_by_bits, drop_top, without_top, equal_by_sum}
use Rattle.gates.specs.Cnots.{cnot_legal}
use Rattle.gates.specs.declared.cnot.Cnot.{Cnot}
use Rattle.gates.specs.CnotLaws.{legal_says}
use Rattle.matrices.specs.Matrices.{image, add_row}
use Rattle.matrices.specs.Meanings.{rows_of}
use Rattle.matrices.specs.Solved.{Solved}
use Rattle.matrices.specs.declared.matrix.Matrix.{Matrix}
use Rattle.matrices.proofs.Additions.{target_bit, other_bit}
use Rattle.matrices.proofs.Held.{length_rows, image_keeps}
use Rattle.matrices.proofs.Images.{image_sum, bit_column}

-- column d of a matrix whose first d columns are done has a one in row d or below
pub some_pivot : (m : Matrix) (d : ℕ) → d < m.lines → Solved m d
    → ((r : ℕ) → d ≤ r → r < m.lines → bit (get_or (rows_of m) r 0) d ≡ 0) → ⊥
some_pivot m d h solved none =
    let n = m.lines in
    let rows = rows_of m in
    let column = image rows (2 ^ d) in
    let below : column < 2 ^ n = image_keeps m (2 ^ d) (pow-lt h) in
    let small : column < 2 ^ d = below_by_bits d column (λ i l.
    ⊎_elim (λ k. bit_column rows i d ∙ none i l k) (λ k. bit_above n column i below k) (cases_lt i n)) in
    let word = bit_xor (2 ^ d) column in
    let gone : word ≡ 0 = solved.single word (xor_lt n (2 ^ d) column (pow-lt h) below)
    (image_sum rows (2 ^ d) column ∙ ap (bit_xor column) (solved.fixed column small) ∙ xor_self column) in
    let same : 2 ^ d ≡ column = equal_by_sum (2 ^ d) column gone in
    omega arith

-- column d is that of identity in the rows so far
pub record Cleared (m : Matrix) (d i : ℕ) : Type 0 where
  pub one : bit (get_or (rows_of m) d 0) d ≡ 1
  pub zeros : (k : ℕ) → k < i → (k ≡ d → ⊥) → bit (get_or (rows_of m) k 0) d ≡ 0

-- row `control` clears its column in row `target`
pub cleared_added : (m m' : Matrix) (g : Cnot) → cnot_legal m.lines g ≡ true → rows_of m' ≡ add_row g (rows_of m)
    → Cleared m g.control g.target → bit (get_or (rows_of m) g.target 0) g.control ≡ 1 → Cleared m' g.control (g.target + 1)
cleared_added m m' g legal rows cleared one =
    let c = g.control in
    let t = g.target in
    record {
      one = other_bit m m' g legal rows c c (legal_says m.lines g legal).differ ∙ cleared.one;
      zeros = below_more (λ k. (k ≡ c → ⊥) → bit (get_or (rows_of m') k 0) c ≡ 0) t
          (λ k l ne. other_bit m m' g legal rows k c (λ e. omega arith) ∙ cleared.zeros k l ne)
          (λ _. target_bit m m' g legal rows c ∙ ap₂ (λ (x y : ℕ). (x + y) % 2) one cleared.one);
    }

pub cleared_skip : (m : Matrix) (d i : ℕ) → Cleared m d i → ((i ≡ d → ⊥) → bit (get_or (rows_of m) i 0) d ≡ 0) → Cleared m d (i + 1)
cleared_skip m d i cleared none = record {
  one = cleared.one;
  zeros = below_more (λ k. (k ≡ d → ⊥) → bit (get_or (rows_of m) k 0) d ≡ 0) i cleared.zeros none;
}

-- with column d done, the words on d + 1 lines are their own images
pub solved_more : (m : Matrix) (d : ℕ) → Solved m d → Cleared m d m.lines → Solved m (d + 1)
solved_more m d solved cleared = record { fixed = fixed; single = solved.single }
  where
    f : ℕ → ℕ
    f = image (rows_of m)

    unit_fixed : f (2 ^ d) ≡ 2 ^ d
    unit_fixed = same_bits _ _ (λ i.
        bit_column (rows_of m) i d
        ∙ ⊎_elim
        (λ e. ap (λ (k : ℕ). bit (get_or (rows_of m) k 0) d) e ∙ cleared.one ∙ sym (ap (bit (2 ^ d)) e ∙ bit_power d))
        (λ ne.
        ⊎_elim (λ k. cleared.zeros i k ne)
        (λ k. ap (λ (row : ℕ). bit row d) (get_or_past (rows_of m) i 0 (omega (arith, length_rows m))) ∙ bit_none d)
        (cases_lt i m.lines)
        ∙ sym (bit_power_other d i ne))
        (cases_eq i d))

    with_top : (x : ℕ) → x < 2 ^ suc d → bit x d ≡ 1 → f x ≡ x
    with_top x l top =
        let y = bit_xor x (2 ^ d) in
        let back = flip_twice x (2 ^ d) in
        let low : y < 2 ^ d = without_top d x (2 ^ d) l (pow-lt (omega arith)) top (bit_power d) in
        ap f (sym back) ∙ image_sum (rows_of m) y (2 ^ d) ∙ ap₂ bit_xor (solved.fixed y low) unit_fixed ∙ back

    fixed : Identity (d + 1) f
    fixed x l =
        let lx : x < 2 ^ suc d = subst (λ (k : ℕ). x < 2 ^ k) (add-one d) l in
        digit_case (bit x d) (bit_lt x d) (λ (b : ℕ). bit x d ≡ b → f x ≡ x)
        (λ none. solved.fixed x (drop_top d x lx none)) (with_top x lx) refl
