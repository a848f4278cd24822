-- The row additions that lead from a matrix to identity lead from identity to the inverse.
use Rattle.std.proofs.Common.{◌≡◌, ℕ, ◌^◌, ◌<◌, List, Ok, sym, ap, ◌∙◌, subst, ⊎_elim, zero-add, arith}
use lib.Bits.{bit_xor, xor_lt, xor_self}
use Rattle.std.proofs.lemmas.Bool.{cases_eq}
use Rattle.words.specs.Maps.{Apart, Identity}
use Rattle.words.proofs.Tops.{equal_by_sum}
use Rattle.matrices.specs.Matrices.{image, unit_rows}
use Rattle.matrices.specs.Meanings.{rows_of, Inverted}
use Rattle.matrices.specs.Solved.{Solved}
use Rattle.matrices.specs.Solving.{Stepped}
use Rattle.matrices.specs.declared.matrix.Matrix.{Matrix}
use Rattle.matrices.specs.declared.matrix.inverse.Solving.{Solving}
use Rattle.matrices.proofs.Held.{length_rows, image_keeps}
use Rattle.matrices.proofs.Identities.{length_units, unit_at, identity_by_rows}
use Rattle.matrices.proofs.Images.{image_sum, image_none, image_lt}

pub solved_none : (m : Matrix) → Apart (2 ^ m.lines) (image (rows_of m)) → Solved m 0
solved_none m apart = record {
  fixed = λ x l. let z : x ≡ 0 = omega arith in ap (image (rows_of m)) z ∙ image_none (rows_of m) ∙ sym z;
  single = λ x l e. ⊎_elim (λ z. z) (λ ne. absurd (apart 0 x (omega arith) l (image_none (rows_of m) ∙ sym e))) (cases_eq x 0);
}

units_identity : (n : ℕ) → Identity n (image (unit_rows 0 n))
units_identity n =
    identity_by_rows n (unit_rows 0 n) (length_units 0 n) (λ r h. unit_at 0 n r h ∙ ap (λ (e : ℕ). 2 ^ e) (zero-add r))

module _ (start end : Solving) (units : rows_of start.made ≡ unit_rows 0 start.left.lines) (step : Stepped start end) (done : end.done ≡ start.left.lines) where
  n : ℕ
  n = start.left.lines

  f : ℕ → ℕ
  f = image (rows_of start.left)

  made : ℕ → ℕ
  made = image (rows_of end.made)

  made_is : (y : ℕ) → y < 2 ^ n → made y ≡ step.map y
  unfolding n made
  made_is y l = step.made y ∙ ap step.map (ap (λ (rows : List ℕ). image rows y) units ∙ units_identity n y l)

  made_keeps : (y : ℕ) → made y < 2 ^ n
  unfolding n made
  made_keeps y = subst (λ (k : ℕ). made y < 2 ^ k) (length_rows end.made ∙ end.same ∙ step.lines) (image_lt (rows_of end.made) y)

  undoes : (x : ℕ) → x < 2 ^ n → made (f x) ≡ x
  unfolding n f
  undoes x l =
      made_is (f x) (image_keeps start.left x l) ∙ sym (step.left x) ∙ end.solved.fixed x (subst (λ (k : ℕ). x < 2 ^ k) (sym done) l)

  -- what is made tells f (made y) and y apart, unless they are equal
  undone : (y : ℕ) → y < 2 ^ n → f (made y) ≡ y
  unfolding n f made
  undone y l =
      let z = f (made y) in
      let lz : z < 2 ^ n = image_keeps start.left (made y) (made_keeps y) in
      let none : made (bit_xor z y) ≡ 0 = image_sum (rows_of end.made) z y ∙ ap (λ (w : ℕ). bit_xor w (made y)) (undoes (made y) (made_keeps y)) ∙ xor_self (made y) in
      equal_by_sum z y (step.single (bit_xor z y) (sym (made_is (bit_xor z y) (xor_lt n z y lz l)) ∙ none))

  pub solved_all : Inverted start.left (Ok end.made)
  unfolding n f made
  solved_all = (end.same ∙ step.lines, undoes, undone)
