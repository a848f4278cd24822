-- Laws of `pieces`.
use Rattle.std.proofs.Common.{◌≡◌, ℕ, zero, suc, ◌<◌, List, [], ◌∷◌, length, get_or, take, drop, refl, ap, ◌∙◌, arith}
use Rattle.std.proofs.lemmas.Bool.{eq-eqb, ne_eqb, cond-true, cond-false}
use Rattle.sheet.specs.Text.{onto, pieces}

lacks_rest : (sep b : ℕ) (bs : List ℕ) (n : ℕ) → ((k : ℕ) → k < suc n → get_or (b ∷ bs) k 0 ≡ sep → ⊥) → (k : ℕ) → k < n → get_or bs k 0 ≡ sep → ⊥
lacks_rest sep b bs n h k l e = h (suc k) (omega arith) e

-- the first sep stands at i
pub pieces_at : (sep : ℕ) (s : List ℕ) (i : ℕ) → i < length s → ((k : ℕ) → k < i → get_or s k 0 ≡ sep → ⊥) → get_or s i 0 ≡ sep → pieces sep s ≡ take i s ∷ pieces sep (drop (suc i) s)
pieces_at sep [] i l h e = absurd (omega arith)
pieces_at sep (b ∷ bs) zero l h e = cond-true _ _ _ (eq-eqb b sep e)
pieces_at sep (b ∷ bs) (suc i) l h e =
    cond-false _ _ _ (ne_eqb b sep (h 0 (omega arith))) ∙ ap (onto b) (pieces_at sep bs i (omega arith) (lacks_rest sep b bs i h) e)

-- there is no sep
pub pieces_none : (sep : ℕ) (s : List ℕ) → ((k : ℕ) → k < length s → get_or s k 0 ≡ sep → ⊥) → pieces sep s ≡ s ∷ []
pieces_none sep [] h = refl
pieces_none sep (b ∷ bs) h =
    cond-false _ _ _ (ne_eqb b sep (h 0 (omega arith))) ∙ ap (onto b) (pieces_none sep bs (lacks_rest sep b bs (length bs) h))
