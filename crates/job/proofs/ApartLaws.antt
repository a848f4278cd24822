-- Where the whole circuit keeps words apart, so does the map within.
use Rattle.std.proofs.Common.{◌≡◌, ℕ, ◌^◌, ◌<◌, List, reverse, Some, None, Option, sym, refl, ap, ◌∙◌, subst, ⊎_elim, arith}
use Rattle.std.proofs.lemmas.List.{reverse-reverse}
use Rattle.std.proofs.lemmas.Bool.{cases_order}
use Rattle.words.specs.Maps.{Same, Apart, Clash}
use Rattle.gates.specs.declared.refusal.Refusal.{Refusal}
use Rattle.gates.specs.Gates.{Kind, Lawful}
use Rattle.gates.specs.Circuits.{through}
use Rattle.gates.specs.Refusals.{unless_clash}
use Rattle.gates.specs.CircuitLaws.{through_keeps, through_back}
use Rattle.pieces.specs.Jobs.{Job, whole}

apart_same : (m : ℕ) (f : ℕ → ℕ) → Apart m f → (x y : ℕ) → x < m → y < m → f x ≡ f y → x ≡ y
apart_same m f apart x y h k e =
    ⊎_elim (λ s. s) (⊎_elim (λ l. absurd (apart x y l k e)) (λ l. absurd (apart y x l h (sym e)))) (cases_order x y)

module _ {G : Type 0} (K : Kind G) (law : Lawful K) (n : ℕ) where
  back_through : (xs : List G) (x : ℕ) → through K n xs (through K n (reverse xs) x) ≡ x
  back_through xs x = subst (λ l. through K n l (through K n (reverse xs) x) ≡ x) (reverse-reverse xs) (through_back K law n (reverse xs) x)

  pub inner_apart : (j : Job G) (f : ℕ → ℕ) → Same n (whole K n j) f → Apart (2 ^ n) f → Apart (2 ^ n) j.map
  inner_apart j f sent apart x y l h e =
      let is = j.ends.ins in
      let back = through K n (reverse is) in
      let k : x < 2 ^ n = omega arith in
      let hx = through_keeps K law n (reverse is) x k in
      let hy = through_keeps K law n (reverse is) y h in
      let at = λ (z : ℕ). through K n (reverse j.ends.outs) (j.map z) in
      let wx : f (back x) ≡ at x = sym (sent (back x) hx) ∙ ap at (back_through is x) in
      let wy : f (back y) ≡ at y = sym (sent (back y) hy) ∙ ap at (back_through is y) in
      let both : back x ≡ back y = apart_same (2 ^ n) f apart (back x) (back y) hx hy (wx ∙ ap (through K n (reverse j.ends.outs)) e ∙ sym wy) in
      let same : x ≡ y = sym (back_through is x) ∙ ap (through K n is) both ∙ back_through is y in
      omega arith

-- a map that keeps words apart has no clash
pub no_clash : (n : ℕ) (f : ℕ → ℕ) → Apart (2 ^ n) f → (clash : Option (ℕ × ℕ)) → Clash n f clash → (next : Option Refusal) → unless_clash clash next ≡ next
no_clash n f apart None c next = refl
no_clash n f apart (Some p) c next = absurd (apart p.0 p.1 c.0 c.1 c.2)
