-- No unit row is wide, and the next unit word is the last one shifted.
use Rattle.std.proofs.Common.{◌≡◌, ℕ, zero, suc, ◌+◌, ◌*◌, ◌%◌, ◌^◌, ◌<◌, ◌≤◌, ltb, None, sym, refl, ap, ◌∙◌, subst, ⊎_elim, mod-eq_of_lt, pow-suc, add-one, arith}
use lib.Pow.{pow-lt}
use Rattle.std.proofs.lemmas.Bool.{cond-true, lt-ltb, cases_lt}
use Rattle.words.specs.Words.{unit}
use Rattle.words.proofs.Flips.{unit_power}
use Rattle.pieces.specs.Rows.{first_wide}
use Rattle.matrices.specs.Matrices.{unit_rows}

pub units_narrow : (n at r k : ℕ) → r + k ≤ n → None ≡ first_wide n at (unit_rows r k)
unfolding unit_rows
units_narrow n at r zero h = refl
units_narrow n at r (suc k) h =
    let rn : r < n = omega arith in
    units_narrow n (at + 1) (suc r) k (omega arith) ∙ sym (cond-true (ltb (2 ^ r) (2 ^ n)) _ _ (lt-ltb (2 ^ r) (2 ^ n) (pow-lt rn)))

-- a unit word shifted is the next; that of line 63 loses its bit
pub shifted : (i : ℕ) → i < 64 → unit i * 2 % 2 ^ 64 ≡ unit (i + 1)
shifted i h =
    ⊎_elim
    (λ l.
    let double : unit i * 2 ≡ 2 ^ (i + 1) = omega (arith, unit_power i h, pow-suc 2 i, ap (λ (k : ℕ). 2 ^ k) (add-one i)) in
    let small : 2 ^ (i + 1) < 2 ^ 64 = pow-lt {j = 64} (omega (arith, l)) in
    ap (λ (w : ℕ). w % 2 ^ 64) double ∙ mod-eq_of_lt small ∙ sym (unit_power (i + 1) (omega arith)))
    (λ l. let last : 63 ≡ i = omega arith in subst (λ (k : ℕ). unit k * 2 % 2 ^ 64 ≡ unit (k + 1)) last refl)
    (cases_lt i 63)
