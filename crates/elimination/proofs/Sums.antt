-- Counts by rows and by columns.
use Rattle.std.proofs.Common.{◌≡◌, ℕ, zero, suc, ◌+◌, ◌*◌, ◌/◌, ◌%◌, ◌^◌, ◌<◌, ◌≤◌, eqb, ◌≢◌, List, [], length, get_or, take, drop, sym, refl, ap, ◌∙◌, ap₂, inl, inr, not-suc-le-zero, mod-lt, zero-lt-suc, pow-suc, add-one, arith, length-take-le, drop-cons}
use lib.Arith.{lt-one}
use lib.Bits.{bit_xor, xor_lt}
use lib.Count.{ones, ones_step}
use lib.Pow.{pow-lt}
use Rattle.std.proofs.lemmas.List.{get_or-take, drop_all}
use Rattle.std.proofs.lemmas.Bool.{cases_eq}
use Rattle.clearing.specs.Clearing.{one}
use Rattle.words.specs.Words.{has}
use Rattle.words.proofs.Bits.{bit_lowest, has_xor}
use Rattle.clearing.specs.Pairs.{differing}
use mathlib.Core.Bool.{xor}
use Rattle.clearing.proofs.Words.{has_power, has_half, ones_none, eqb_flip, digit_one}
use Rattle.elimination.specs.Halves.{off}
use Rattle.elimination.specs.Layouts.{Across, Below}

unfoldable pub total : ℕ → (ℕ → ℕ) → ℕ
total zero f = 0
total (suc n) f = total n f + f n

pub total_ext : (n : ℕ) (f g : ℕ → ℕ) → ((k : ℕ) → k < n → f k ≡ g k) → total n f ≡ total n g
unfolding total
total_ext zero f g h = refl
total_ext (suc n) f g h = ap₂ (λ (x y : ℕ). x + y) (total_ext n f g (λ k hk. h k (omega arith))) (h n (omega arith))

total_none : (n : ℕ) → total n (λ k. 0) ≡ 0
unfolding total
total_none zero = refl
total_none (suc n) = omega (arith, total_none n)

total_xor : (n : ℕ) (f g : ℕ → ℕ) → total n (λ k. f k + g k) ≡ total n f + total n g
unfolding total
total_xor zero f g = refl
total_xor (suc n) f g = omega (arith, total_xor n f g)

pub total_swap : (n m : ℕ) (f : ℕ → ℕ → ℕ) → total n (λ i. total m (f i)) ≡ total m (λ j. total n (λ i. f i j))
unfolding total
total_swap zero m f = sym (total_none m)
total_swap (suc n) m f =
    ap (λ (x : ℕ). x + total m (f n)) (total_swap n m f) ∙ sym (total_xor m (λ j. total n (λ i. f i j)) (f n))

-- one term differs
pub total_one : (n t : ℕ) (f g : ℕ → ℕ) → t < n → ((k : ℕ) → k ≢ t → f k ≡ g k) → total n f + g t ≡ total n g + f t
unfolding total
total_one zero t f g h e = absurd (not-suc-le-zero h)
total_one (suc n) t f g h e =
    elim (cases_eq t n) [
      | inl q ↦ let a : total n f ≡ total n g = total_ext n f g (λ k hk. e k (omega arith)) in
          let x : f t ≡ f n = ap f q in let y : g t ≡ g n = ap g q in omega arith
      | inr q ↦ let a : f n ≡ g n = e n (λ p. q (sym p)) in omega (arith, total_one n t f g (omega arith) e)
    ]

total_front : (n : ℕ) (f : ℕ → ℕ) → total (suc n) f ≡ f 0 + total n (λ k. f (suc k))
unfolding total
total_front zero f = omega arith
total_front (suc n) f = omega (arith, total_front n f)

-- the ones of a word, bit by bit
half_lt : (n a : ℕ) → a < 2 ^ suc n → a / 2 < 2 ^ n
half_lt n a h = let p : 2 ^ suc n ≡ 2 ^ n * 2 = pow-suc 2 n in omega arith

pub ones_bits : (n w : ℕ) → w < 2 ^ n → ones w ≡ total n (λ k. one (has w k))
unfolding total
ones_bits zero w h = ap ones (lt-one h) ∙ ones_none
ones_bits (suc n) w h =
    ones_step w
    ∙ ap₂ (λ (x y : ℕ). x + y) (digit_one (w % 2) (mod-lt w (zero-lt-suc 1)) ∙ ap (λ (d : ℕ). one (eqb d 1)) (sym (bit_lowest w)))
    (ones_bits n (w / 2) (half_lt n w h) ∙ total_ext n (λ k. one (has (w / 2) k)) (λ k. one (has w (suc k))) (λ k hk. ap one (sym (has_half w k))))
    ∙ sym (total_front n (λ k. one (has w k)))

off_bits : (n : ℕ) (xs : List ℕ) (i : ℕ) → i < n → get_or xs i 0 < 2 ^ n → off xs i ≡ total n (λ j. one (xor (has (get_or xs i 0) j) (eqb i j)))
off_bits n xs i hi small =
    ones_bits n (bit_xor (get_or xs i 0) (2 ^ i)) (xor_lt n (get_or xs i 0) (2 ^ i) small (pow-lt hi))
    ∙ total_ext n (λ j. one (has (bit_xor (get_or xs i 0) (2 ^ i)) j)) (λ j. one (xor (has (get_or xs i 0) j) (eqb i j)))
    (λ j hj. ap one (has_xor (get_or xs i 0) (2 ^ i) j ∙ ap (xor (has (get_or xs i 0) j)) (has_power i j)))

-- counted by rows, and by columns
pub total_across : (n : ℕ) (xs ys : List ℕ) → Across n xs ys → Below n xs → Below n ys → total n (off xs) ≡ total n (off ys)
total_across n xs ys h sx sy =
    total_ext n (off xs) (λ i. total n (λ j. one (xor (has (get_or xs i 0) j) (eqb i j)))) (λ i hi. off_bits n xs i hi (sx i hi))
    ∙ total_swap n n (λ i j. one (xor (has (get_or xs i 0) j) (eqb i j)))
    ∙ total_ext n (λ j. total n (λ i. one (xor (has (get_or xs i 0) j) (eqb i j)))) (off ys)
    (λ j hj.
    total_ext n (λ i. one (xor (has (get_or xs i 0) j) (eqb i j))) (λ i. one (xor (has (get_or ys j 0) i) (eqb j i)))
    (λ i hi. ap one (ap₂ xor (h i j hi hj) (eqb_flip i j)))
    ∙ sym (off_bits n ys j hj (sy j hj)))

-- against the definition's count
differing_more : (m : List ℕ) (i : ℕ) → i < length m → differing i (drop i m) ≡ off m i + differing (i + 1) (drop (i + 1) m)
unfolding differing
differing_more m i h = rw (add-one, drop-cons m i 0 h)

differing_end : (i : ℕ) → differing i [] ≡ 0
unfolding differing
differing_end i = refl

counted : (m : List ℕ) (i : ℕ) → i ≤ length m → total i (off m) + differing i (drop i m) ≡ differing 0 m
unfolding total
counted m zero h = omega arith
counted m (suc i) h =
    let e : differing i (drop i m) ≡ off m i + differing (i + 1) (drop (i + 1) m) = differing_more m i h in
    let q : differing (i + 1) (drop (i + 1) m) ≡ differing (suc i) (drop (suc i) m) = ap (λ (k : ℕ). differing k (drop k m)) (add-one i) in
    omega (arith, counted m i (omega arith))

pub differing_total : (n : ℕ) (xs : List ℕ) → n ≤ length xs → differing 0 (take n xs) ≡ total n (off xs)
differing_total n xs h =
    let m = take n xs in
    let len : length (take n xs) ≡ n = length-take-le n xs h in
    let e : differing n (drop n (take n xs)) ≡ 0 = ap (differing n) (drop_all n (take n xs) (omega arith)) ∙ differing_end n in
    let c : total n (off (take n xs)) + differing n (drop n (take n xs)) ≡ differing 0 (take n xs) = counted (take n xs) n (omega arith) in
    let x : total n (off (take n xs)) ≡ total n (off xs) =
    total_ext n (off (take n xs)) (off xs) (λ k hk. ap (λ (w : ℕ). ones (bit_xor w (2 ^ k))) (get_or-take n xs k 0 hk)) in
    omega arith
