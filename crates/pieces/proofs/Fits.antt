-- Rows of which none is wide are words on n lines, and make a piece where their number is right.
use Rattle.std.proofs.Common.{◌≡◌, ℕ, zero, suc, ◌+◌, ◌^◌, ◌<◌, ◌≤◌, false, not, ◌&&◌, eqb, ltb, leb, List, [], ◌∷◌, length, get_or, Some, None, sym, ap, ◌∙◌, ⊎_elim, arith}
use Rattle.std.proofs.lemmas.Bool.{lt-ltb, le-ltb, cases_lt, cond-true, cond-false}
use Rattle.std.proofs.lemmas.Bool.Decides.{nat_tests}
use Rattle.gates.specs.declared.refusal.Refusal.TheVariants.{WrongSize}
use Rattle.gates.specs.Refusals.{first}
use Rattle.pieces.specs.Rows.{first_wide, unless_wide, unfit}

module _ (n : ℕ) where
  split : (at row : ℕ) (rows : List ℕ) → None ≡ first_wide n at (row ∷ rows) → (row < 2 ^ n) × (None ≡ first_wide n (at + 1) rows)
  split at row rows none =
      ⊎_elim (λ h. (h, none ∙ cond-true (ltb row (2 ^ n)) _ _ (lt-ltb row (2 ^ n) h)))
      (λ h.
      let wide : None ≡ Some at = none ∙ cond-false (ltb row (2 ^ n)) _ _ (le-ltb row (2 ^ n) h) in
      let never : ◌≡◌ {A = ℕ} 0 1 = cc in
      absurd (omega arith))
      (cases_lt row (2 ^ n))

  pub narrow : (at : ℕ) (rows : List ℕ) → None ≡ first_wide n at rows → (k : ℕ) → k < length rows → get_or rows k 0 < 2 ^ n
  narrow at [] none k h = absurd (omega arith)
  narrow at (row ∷ rows) none zero h = (split at row rows none).0
  narrow at (row ∷ rows) none (suc k) h = narrow (at + 1) rows (split at row rows none).1 k (omega arith)

pub fits : (most n count : ℕ) (rows : List ℕ) → 1 ≤ n → n ≤ most → length rows ≡ count → None ≡ first_wide n 0 rows → unfit most n count rows ≡ None
fits most n count rows some few size none =
    let e : not (leb 1 n && (leb n most && eqb (length rows) count)) ≡ false = grind (arith, nat_tests) in
    ap (λ b. first b WrongSize (unless_wide (first_wide n 0 rows))) e ∙ ap unless_wide (sym none)
