-- Numbers in order: how many there are, each of them, and that they are words.
use Rattle.std.proofs.Common.{◌≡◌, ℕ, zero, suc, ◌+◌, ◌^◌, ◌<◌, ◌≤◌, ltb, length, get_or, None, sym, refl, ap, ◌∙◌, arith}
use Rattle.std.proofs.lemmas.Bool.{cond-true, lt-ltb}
use Rattle.pieces.specs.Rows.{first_wide}
use Rattle.tables.specs.Tables.{counting}

pub length_counting : (x k : ℕ) → length (counting x k) ≡ k
unfolding counting
length_counting x zero = refl
length_counting x (suc k) = ap suc (length_counting (suc x) k)

pub getD_counting : (x k i : ℕ) → i < k → get_or (counting x k) i 0 ≡ x + i
unfolding counting
getD_counting x zero i h = absurd (omega arith)
getD_counting x (suc k) zero h = omega arith
getD_counting x (suc k) (suc i) h = getD_counting (suc x) k i (omega arith) ∙ omega arith

-- those below 2 ^ n are words
pub counting_narrow : (n at x k : ℕ) → x + k ≤ 2 ^ n → None ≡ first_wide n at (counting x k)
unfolding counting
counting_narrow n at x zero h = refl
counting_narrow n at x (suc k) h =
    let here : x < 2 ^ n = omega arith in
    counting_narrow n (at + 1) (suc x) k (omega arith) ∙ sym (cond-true (ltb x (2 ^ n)) _ _ (lt-ltb x (2 ^ n) here))
