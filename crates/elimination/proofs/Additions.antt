-- The addition of a line in one layout.
use Rattle.std.proofs.Common.{◌≡◌, ℕ, ◌+◌, ◌*◌, ◌/◌, ◌%◌, ◌^◌, ◌<◌, ◌≤◌, cond, eqb, ◌≢◌, List, length, get_or, take, set, sym, ap, ◌∙◌, ap₂, zero-mul, arith, length-set}
use mathlib.Core.HLevel.{is_prop→PathP}
use lib.Bits.{bit_xor, bit_and, and_mask, xor_lt, xor_assoc, xor_self, xor_zero_r}
use lib.Count.{ones, ones-le}
use lib.Pow.{pow-lt}
use lib.ListN.{length-map}
use denote.Struct.Props.{props}
use Rattle.std.proofs.lemmas.Nat.{one_shl}
use Rattle.std.proofs.lemmas.List.{get_or-take, take-map, set-set, set-get_or, get_or-set_same, get_or-set_other}
use Rattle.matrices.proofs.Turns.{turned}
use Rattle.words.specs.Words.{bit, has}
use Rattle.words.proofs.Bits.{bit_lt}
use Rattle.words.proofs.Parities.{digit_case}
use Rattle.matrices.specs.Matrices.{add_row, add_column}
use Rattle.matrices.proofs.Held.{take_set_within}
use Rattle.elimination.specs.declared.addition.Addition.{Addition}
use Rattle.elimination.specs.declared.half.Half.{Half}
use Rattle.elimination.specs.Halves.{row_added, column_added, Added, off, weight_of}

-- the program's count of a word's differences
pub off_is : (words : List ℕ) (i : ℕ) → i < 64 → ones (bit_xor (get_or words i 0) ((1 * 2 ^ i) % 2 ^ 64)) ≡ off words i
off_is words i h = ap (λ (x : ℕ). ones (bit_xor (get_or words i 0) x)) (one_shl i 64 h)

pub off_few : (words : List ℕ) (i : ℕ) → i < 64 → get_or words i 0 < 2 ^ 64 → off words i ≤ 64
off_few words i h fits = ones-le 64 (bit_xor (get_or words i 0) (2 ^ i)) (xor_lt 64 (get_or words i 0) (2 ^ i) fits (pow-lt h))

-- the program's weight of two words
pub weighed : (a : Addition) (h : Half) → get_or h.first a.to 0 < 2 ^ 64 → get_or h.second a.from 0 < 2 ^ 64
    → let w = ones (bit_xor (get_or h.first a.to 0) ((1 * 2 ^ a.to) % 2 ^ 64)) + ones (bit_xor (get_or h.second a.from 0) ((1 * 2 ^ a.from) % 2 ^ 64)) in
    (w ≡ weight_of a h) × (w ≤ 128)
weighed a h x y =
    let p = off_is h.first a.to a.to_line in
    let q = off_is h.second a.from a.from_line in
    (ap₂ (λ (j k : ℕ). j + k) p q, omega (arith, p, q, off_few h.first a.to a.to_line x, off_few h.second a.from a.from_line y))

-- a line added twice
pub added_twice : (m : List ℕ) (c t : ℕ) → t < length m → c ≢ t → row_added c t (row_added c t m) ≡ m
unfolding add_row
added_twice m c t h ne =
    let x = bit_xor (get_or m t 0) (get_or m c 0) in
    set-set m t x (bit_xor (get_or (set m t x) t 0) (get_or (set m t x) c 0))
    ∙ ap (set m t)
    (ap₂ bit_xor (get_or-set_same m t x 0 h) (get_or-set_other m t c x 0 ne)
    ∙ xor_assoc (get_or m t 0) (get_or m c 0) (get_or m c 0) ∙ ap (bit_xor (get_or m t 0)) (xor_self (get_or m c 0)) ∙ xor_zero_r (get_or m t 0))
    ∙ set-get_or m t 0

-- layouts with the same words are equal
pub same_half : (a b : Half) → a.first ≡ b.first → a.second ≡ b.second → a ≡ b
same_half a b p q = λ i. record {
  first = p i;
  second = q i;
  full = is_prop→PathP (λ j. length (p j) ≡ 64) (λ j. hlevel props) a.full b.full i;
  filled = is_prop→PathP (λ j. length (q j) ≡ 64) (λ j. hlevel props) a.filled b.filled i;
}

-- a trial taken back
pub taken_back : (a : Addition) (h h₁ h₂ : Half) → Added a h h₁ → Added a h₁ h₂ → h₂ ≡ h
taken_back a h h₁ h₂ there back =
    same_half h₂ h
    (back.first ∙ ap (row_added a.from a.to) there.first ∙ added_twice h.first a.from a.to (omega arith) a.apart)
    (back.second ∙ ap (row_added a.to a.from) there.second ∙ added_twice h.second a.to a.from (omega arith) (λ e. a.apart (sym e)))

-- the program's test of a bit, and its flip
pub has_test : (x k : ℕ) → eqb (bit_and (x / 2 ^ k) 1) 1 ≡ has x k
has_test x k = ap (λ (d : ℕ). eqb d 1) (and_mask (x / 2 ^ k) 1)

pub flip_is : (c t x : ℕ) → t < 64 → bit_xor x ((bit_and (x / 2 ^ c) 1 * 2 ^ t) % 2 ^ 64) ≡ turned c t x
flip_is c t x h =
    ap (λ (d : ℕ). bit_xor x ((d * 2 ^ t) % 2 ^ 64)) (and_mask (x / 2 ^ c) 1)
    ∙ digit_case (bit x c) (bit_lt x c) (λ (d : ℕ). bit_xor x ((d * 2 ^ t) % 2 ^ 64) ≡ cond (eqb d 1) (bit_xor x (2 ^ t)) x)
    (ap (bit_xor x) (ap (λ (k : ℕ). k % 2 ^ 64) (zero-mul (2 ^ t))) ∙ xor_zero_r x)
    (ap (bit_xor x) (one_shl t 64 h))

pub length_flipped : (m : List ℕ) (c t : ℕ) → length (column_added c t m) ≡ length m
unfolding add_column
length_flipped m c t = length-map m (turned t c)

pub length_added : (m : List ℕ) (c t : ℕ) → length (row_added c t m) ≡ length m
unfolding add_row
length_added m c t = length-set m t (bit_xor (get_or m t 0) (get_or m c 0))

-- the first n words alone
pub take_added : (n : ℕ) (m : List ℕ) (c t : ℕ) → c < n → t < n → take n (row_added c t m) ≡ row_added c t (take n m)
unfolding add_row
take_added n m c t hc ht =
    take_set_within n m t (bit_xor (get_or m t 0) (get_or m c 0))
    ∙ ap₂ (λ (x y : ℕ). set (take n m) t (bit_xor x y)) (sym (get_or-take n m t 0 ht)) (sym (get_or-take n m c 0 hc))

pub take_flipped : (n : ℕ) (m : List ℕ) (c t : ℕ) → take n (column_added c t m) ≡ column_added c t (take n m)
unfolding add_column
take_flipped n m c t = take-map (turned t c) n m
