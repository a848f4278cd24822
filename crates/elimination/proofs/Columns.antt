-- Words read across, a bit at a time.
use Rattle.std.proofs.Common.{◌≡◌, ℕ, ◌+◌, ◌*◌, ◌/◌, ◌%◌, ◌^◌, ◌<◌, ◌≤◌, Bool, false, ◌&&◌, eqb, ◌≢◌, List, length, get_or, set, sym, refl, ap, ◌∙◌, subst, ap₂, mod-lt, zero-mul, add-one, arith, pow_pos, pow_mono, below_more}
use mathlib.Core.Bool.{and-true, and-false}
use lib.Bits.{bit_xor, bit_and, xor_lt, and_mask}
use lib.Pow.{pow-lt}
use lib.Count.{ones}
use Rattle.std.proofs.lemmas.Nat.{one_shl}
use Rattle.std.proofs.lemmas.List.{get_or-set_same, get_or-set_other}
use Rattle.std.proofs.lemmas.Bool.{eq-eqb, ne_eqb}
use Rattle.words.specs.Words.{has}
use Rattle.words.proofs.Bits.{bit_above, has_xor}
use Rattle.words.proofs.Parities.{digit_case}
use mathlib.Core.Bool.{xor}
use Rattle.clearing.proofs.Words.{has_power, has_none, xor_false, false_xor}
use Rattle.elimination.specs.Halves.{off}
use Rattle.elimination.proofs.Additions.{has_test, off_is, off_few}
use Rattle.elimination.proofs.Sums.{total}

-- a word below 2 ^ i has no bit i
no_bit : (w i : ℕ) → w < 2 ^ i → has w i ≡ false
no_bit w i h = ap (λ (d : ℕ). eqb d 1) (bit_above i w i h (omega arith))

-- a digit at place i
placed_bit : (d i k : ℕ) → d < 2 → i < 64 → has ((d * 2 ^ i) % 2 ^ 64) k ≡ (eqb i k && eqb d 1)
placed_bit d i k hd hi =
    digit_case d hd (λ (x : ℕ). has ((x * 2 ^ i) % 2 ^ 64) k ≡ (eqb i k && eqb x 1))
    (ap (λ (x : ℕ). has (x % 2 ^ 64) k) (zero-mul (2 ^ i)) ∙ has_none k ∙ sym (and-false (eqb i k)))
    (ap (λ (x : ℕ). has x k) (one_shl i 64 hi) ∙ has_power i k ∙ sym (and-true (eqb i k)))

placed_lt : (d i : ℕ) → d < 2 → i < 64 → (d * 2 ^ i) % 2 ^ 64 < 2 ^ (i + 1)
placed_lt d i hd hi =
    digit_case d hd (λ (x : ℕ). (x * 2 ^ i) % 2 ^ 64 < 2 ^ (i + 1))
    (subst (λ (x : ℕ). x % 2 ^ 64 < 2 ^ (i + 1)) (sym (zero-mul (2 ^ i))) (pow_pos (i + 1)))
    (subst (λ (x : ℕ). x < 2 ^ (i + 1)) (sym (one_shl i 64 hi)) (pow-lt (omega arith)))

abbrev pub Read : List ℕ → ℕ → ℕ → ℕ → Type 0
Read words j i w = (w < 2 ^ i) × ((k : ℕ) → k < i → has w k ≡ has (get_or words k 0) j)

pub read_more : (words : List ℕ) (j i w : ℕ) → i < 64 → Read words j i w → Read words j (i + 1) (bit_xor w ((bit_and (get_or words i 0 / 2 ^ j) 1 * 2 ^ i) % 2 ^ 64))
read_more words j i w hi h =
    let d = bit_and (get_or words i 0 / 2 ^ j) 1 in
    let two : 0 < 2 = omega arith in
    let hd : bit_and (get_or words i 0 / 2 ^ j) 1 < 2 = subst (λ (x : ℕ). x < 2) (sym (and_mask (get_or words i 0 / 2 ^ j) 1)) (mod-lt (get_or words i 0 / 2 ^ j) two) in
    let up : w < 2 ^ (i + 1) = omega (arith, h.0, pow_mono {i = i} {j = i + 1} (omega arith)) in (
      xor_lt (i + 1) w ((d * 2 ^ i) % 2 ^ 64) up (placed_lt d i hd hi),
      below_more (λ (k : ℕ). has (bit_xor w ((d * 2 ^ i) % 2 ^ 64)) k ≡ has (get_or words k 0) j) i
          (λ k hk. let ne : i ≢ k = omega arith in
          has_xor w ((d * 2 ^ i) % 2 ^ 64) k
          ∙ ap (xor (has w k)) (placed_bit d i k hd hi ∙ ap (λ (b : Bool). b && eqb d 1) (ne_eqb i k ne)) ∙ xor_false (has w k) ∙ h.1 k hk)
          (has_xor w ((d * 2 ^ i) % 2 ^ 64) i
          ∙ ap₂ xor (no_bit w i h.0) (placed_bit d i i hd hi ∙ ap (λ (b : Bool). b && eqb d 1) (eq-eqb i i refl))
          ∙ false_xor (eqb d 1) ∙ has_test (get_or words i 0) j),
    )

-- the columns so far
abbrev pub Reads : ℕ → List ℕ → ℕ → List ℕ → Type 0
Reads n words j columns = (k : ℕ) → k < j → Read words k n (get_or columns k 0)

pub reads_more : (n : ℕ) (words : List ℕ) (j : ℕ) (columns : List ℕ) (w : ℕ) → j < length columns → Reads n words j columns → Read words j n w
    → Reads n words (j + 1) (set columns j w)
reads_more n words j columns w lt h r =
    below_more (λ (k : ℕ). Read words k n (get_or (set columns j w) k 0)) j
    (λ k hk. let ne : k ≢ j = omega arith in subst (Read words k n) (sym (get_or-set_other columns j k w 0 ne)) (h k hk))
    (subst (Read words j n) (sym (get_or-set_same columns j w 0 lt)) r)

-- the count of the first i words
pub counted_more : (words : List ℕ) (i c : ℕ) → i < 64 → get_or words i 0 < 2 ^ 64 → (c ≡ total i (off words)) × (c ≤ 64 * i)
    → (c + ones (bit_xor (get_or words i 0) ((1 * 2 ^ i) % 2 ^ 64)) ≡ total (i + 1) (off words)) × (c + ones (bit_xor (get_or words i 0) ((1 * 2 ^ i) % 2 ^ 64)) ≤ 64 * (i + 1))
unfolding total
counted_more words i c hi fits h = (
  ap₂ (λ (x y : ℕ). x + y) h.0 (off_is words i hi) ∙ ap (λ (k : ℕ). total k (off words)) (sym (add-one i)),
  omega (arith, h.1, off_is words i hi, off_few words i hi fits),
)

pub counted_none : (words : List ℕ) → 0 ≡ total 0 (off words)
unfolding total
counted_none words = refl
