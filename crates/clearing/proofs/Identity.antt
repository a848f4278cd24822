-- Identity by its rows, by its entries, and by the count of differing entries.
use Rattle.std.proofs.Common.{◌≡◌, ℕ, zero, suc, ◌+◌, ◌/◌, ◌^◌, ◌<◌, eqb, List, [], ◌∷◌, length, get_or, sym, refl, ap, ◌∙◌, add-zero, add-suc, suc-add, arith}
use lib.Arith.{bin_ind}
use lib.Bits.{bit_xor, xor_self}
use lib.Count.{ones, ones_step}
use lib.Pow.{pow-lt}
use Rattle.words.specs.Words.{has}
use Rattle.words.proofs.Tops.{equal_by_sum}
use Rattle.clearing.specs.Pairs.{entry, differing, Square}
use Rattle.clearing.proofs.Words.{ones_none, has_power, same_has}

-- no ones: the number is 0
ones_zero : (w : ℕ) → ones w ≡ 0 → w ≡ 0
ones_zero = bin_ind (λ (w : ℕ). ones w ≡ 0 → w ≡ 0) (λ e. refl) (λ w ih e. let h : w / 2 ≡ 0 = ih (omega (arith, ones_step w)) in omega (arith, ones_step w))

pub differing_none : (k : ℕ) (m : List ℕ) → ((r : ℕ) → r < length m → get_or m r 0 ≡ 2 ^ (k + r)) → differing k m ≡ 0
unfolding differing
differing_none k [] h = refl
differing_none k (row ∷ m) h =
    let e : row ≡ 2 ^ k = h 0 (omega arith) ∙ ap (λ (j : ℕ). 2 ^ j) (add-zero k) in
    let a : ones (bit_xor row (2 ^ k)) ≡ 0 = ap ones (ap (λ (j : ℕ). bit_xor j (2 ^ k)) e ∙ xor_self (2 ^ k)) ∙ ones_none in
    let b : differing (suc k) m ≡ 0 =
    differing_none (suc k) m (λ r hr. h (suc r) (omega arith) ∙ ap (λ (j : ℕ). 2 ^ j) (add-suc k r ∙ sym (suc-add k r))) in
    omega arith

pub none_differing : (k : ℕ) (m : List ℕ) → differing k m ≡ 0 → (r : ℕ) → r < length m → get_or m r 0 ≡ 2 ^ (k + r)
unfolding differing
none_differing k [] e r hr = absurd (omega arith)
none_differing k (row ∷ m) e zero hr = equal_by_sum row (2 ^ k) (ones_zero (bit_xor row (2 ^ k)) (omega arith)) ∙ ap (λ (j : ℕ). 2 ^ j) (sym (add-zero k))
none_differing k (row ∷ m) e (suc r) hr =
    none_differing (suc k) m (omega arith) r (omega arith) ∙ ap (λ (j : ℕ). 2 ^ j) (suc-add k r ∙ sym (add-suc k r))

-- rows by entries, and entries by rows
pub rows_by_entries : (n : ℕ) (m : List ℕ) → Square n m → ((r c : ℕ) → r < n → c < n → entry m r c ≡ eqb r c) → (r : ℕ) → r < n → get_or m r 0 ≡ 2 ^ r
rows_by_entries n m sq h r hr = same_has n (get_or m r 0) (2 ^ r) (sq.small r hr) (pow-lt hr) (λ k hk. h r k hr hk ∙ sym (has_power r k))

pub entries_by_rows : (n : ℕ) (m : List ℕ) → ((r : ℕ) → r < n → get_or m r 0 ≡ 2 ^ r) → (r c : ℕ) → r < n → entry m r c ≡ eqb r c
entries_by_rows n m h r c hr = ap (λ (w : ℕ). has w c) (h r hr) ∙ has_power r c
