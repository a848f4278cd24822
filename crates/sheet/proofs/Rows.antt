-- A row is read from its last digit to its first.
use Rattle.std.proofs.Common.{◌≡◌, ℕ, zero, suc, ◌+◌, ◌-◌, ◌*◌, ◌^◌, ◌<◌, ◌≤◌, List, [], ◌∷◌, length, get_or, drop, Some, None, ap, ◌∙◌, pow-suc, arith}
use Rattle.std.proofs.lemmas.List.{drop_more}
use Rattle.sheet.specs.Form.{bit, below_word, bits}
use Rattle.sheet.proofs.Lines.{bit_small, below_none}

module _ (l : List ℕ) (i : ℕ) (some : 0 < i) (inside : i ≤ length l) where
  step : drop (i - 1) l ≡ get_or l (i - 1) 0 ∷ drop i l
  step = let e : i - 1 + 1 ≡ i = omega arith in drop_more l (i - 1) 0 (omega arith) ∙ ap (λ k. get_or l (i - 1) 0 ∷ drop k l) e

  pub bits_more : (b w : ℕ) → bit (get_or l (i - 1) 0) ≡ Some b → bits (drop i l) ≡ Some w → bits (drop (i - 1) l) ≡ Some (b + w * 2)
  bits_more b w e h = ap bits step ∙ ap (λ o. below_word o (bits (drop i l))) e ∙ ap (below_word (Some b)) h

  pub bits_other : bit (get_or l (i - 1) 0) ≡ None → bits (drop (i - 1) l) ≡ None
  bits_other e = ap bits step ∙ ap (λ o. below_word o (bits (drop i l))) e

  -- one bit more is one power more
  pub bit_fits : (b w : ℕ) → bit (get_or l (i - 1) 0) ≡ Some b → w < 2 ^ (length l - i) → b + w * 2 < 2 ^ (length l - (i - 1))
  bit_fits b w d k =
      let h = bit_small (get_or l (i - 1) 0) b d in
      let e : length l - (i - 1) ≡ suc (length l - i) = omega arith in
      rw (e, pow-suc) (omega arith)

-- what is no row from some digit on is no row
pub bits_none : (l : List ℕ) (i : ℕ) → bits (drop i l) ≡ None → bits l ≡ None
bits_none l zero h = h
bits_none [] (suc i) h = h
bits_none (b ∷ bs) (suc i) h = ap (below_word (bit b)) (bits_none bs i h) ∙ below_none (bit b)
