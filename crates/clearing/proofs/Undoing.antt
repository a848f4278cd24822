-- The word with a given image, and that the inverse of a matrix undoes its map.
use Rattle.std.proofs.Common.{◌≡◌, ℕ, zero, suc, ◌^◌, ◌<◌, cond, eqb, sym, refl, ap, ◌∙◌, ap₂, ⊎_elim, arith}
use Rattle.std.proofs.lemmas.Bool.{cases_eq, eq-eqb, ne_eqb, cond-true, cond-false}
use Rattle.words.specs.Maps.{Same}
use Rattle.matrices.specs.Matrices.{image}
use Rattle.clearing.specs.Pairs.{Pair, Inverses}
use Rattle.clearing.specs.Plans.{word_with, undone}
use Rattle.clearing.proofs.Squares.{image_below}

-- ---- maps that agree on words

word_same : (f g : ℕ → ℕ) (y b : ℕ) → ((x : ℕ) → x < b → f x ≡ g x) → word_with f y b ≡ word_with g y b
unfolding word_with
word_same f g y zero same = refl
word_same f g y (suc b) same =
    ap₂ (λ (v w : ℕ). cond (eqb v y) b w) (same b (omega arith)) (word_same f g y b (λ x h. same x (omega arith)))

pub undone_same : (n : ℕ) (f g : ℕ → ℕ) → Same n f g → Same n (undone n f) (undone n g)
undone_same n f g same y _ = word_same f g y (2 ^ n) same

-- ---- a word that alone has its image is found

word_found : (f : ℕ → ℕ) (y b x : ℕ) → x < b → f x ≡ y → ((z : ℕ) → z < b → f z ≡ y → z ≡ x) → word_with f y b ≡ x
unfolding word_with
word_found f y zero x h is alone = absurd (omega arith)
word_found f y (suc b) x h is alone =
    ⊎_elim
    (λ e. cond-true (eqb (f b) y) b _ (eq-eqb (f b) y e) ∙ alone b (omega arith) e)
    (λ ne.
    let other : x ≡ b → ⊥ = λ e. ne (ap f (sym e) ∙ is) in
    cond-false (eqb (f b) y) b _ (ne_eqb (f b) y ne) ∙ word_found f y b x (omega arith) is (λ z l. alone z (omega arith)))
    (cases_eq (f b) y)

module _ (n : ℕ) (p : Pair) (inverses : Inverses n p) where
  pub undone_is : Same n (undone n (image p.matrix)) (image p.inverse)
  undone_is y h =
      word_found (image p.matrix) y (2 ^ n) (image p.inverse y) (image_below n p.inverse inverses.square' y) (inverses.forth y h)
      (λ z l e. sym (inverses.back z l) ∙ ap (image p.inverse) e)
