-- How contents lines and bodies are read one by one.
use Rattle.std.proofs.Common.{◌≡◌, ℕ, suc, ◌+◌, true, false, cond, eqb, List, [], ◌∷◌, ◌++◌, length, Ok, Err, Result, sym, refl, ap, ◌∙◌, arith}
use Rattle.sheet.specs.declared.fault.Fault.{Fault}
use Rattle.sheet.specs.declared.fault.Layer.TheVariants as layer
use Rattle.sheet.specs.declared.contents.Contents.{Contents}
use Rattle.sheet.specs.Fault.{and_then, line_by}
use Rattle.sheet.specs.Form.{contents}
use Rattle.std.proofs.lemmas.Bool.{ne_eqb}
use Rattle.sheet.specs.Text.{pieces}
use Rattle.sheet.specs.Text.{onto as one}
use Rattle.sheet.specs.Body.{ended}
use Rattle.sheet.specs.Sheet.{contents_lines}
use Rattle.sheet.proofs.Lines.{pieces_cons}
use Rattle.sheet.proofs.Bodies.{Reading, after, before, after_before}

goes : (m i first : ℕ) → Result (Contents × List (List ℕ)) Fault → Reading Contents
goes m i first z = and_then z (λ x. before x.0 (contents_lines m (suc i) (first + x.0.count) x.1))

-- `whole` is the contents, of which m lines from line i on are left, in the pieces ps
module _ (whole : Reading Contents) (done : List Contents) (m' m i first : ℕ) (ps : List (List ℕ)) (left : m' ≡ suc m) (so_far : whole ≡ after done (contents_lines m' i first ps)) where
  next : whole ≡ after done (goes m i first (line_by layer.Contents i (contents first) ps))
  unfolding goes
  next = so_far ∙ ap (λ m. after done (contents_lines m i first ps)) left

  pub contents_more : (c : Contents) (qs : List (List ℕ)) (items : List Contents) (j n : ℕ) → line_by layer.Contents i (contents first) ps ≡ Ok (c, qs) → items ≡ done ++ c ∷ [] → j ≡ suc i → n ≡ c.count → whole ≡ after items (contents_lines m j (first + n) qs)
  unfolding goes
  contents_more c qs items j n e p r q =
      next ∙ ap (λ z. after done (goes m i first z)) e ∙ after_before done c (contents_lines m (suc i) (first + c.count) qs)
      ∙ (λ t. after (sym p t) (contents_lines m (sym r t) (first + sym q t) qs))

  pub contents_stop : (f : Fault) → line_by layer.Contents i (contents first) ps ≡ Err f → whole ≡ Err f
  unfolding goes
  contents_stop f e = next ∙ ap (λ z. after done (goes m i first z)) e

ended_onto : (b : ℕ) (ps : List (List ℕ)) → ended (one b ps) ≡ false
ended_onto b [] = refl
ended_onto b (p ∷ []) = ne_eqb (suc (length p)) 0 (λ e. omega arith)
ended_onto b (p ∷ q ∷ ps) = refl

ended_more : (b : ℕ) (bs : List ℕ) → ended (pieces 10 (b ∷ bs)) ≡ false
ended_more b bs =
    let q = pieces_cons 10 bs in
    elim (eqb b 10) as (λ t. ended (cond t ([] ∷ pieces 10 bs) (one b (pieces 10 bs))) ≡ false) [ true ↦ ap (λ z. ended ([] ∷ z)) q.2 | false ↦ ended_onto b (pieces 10 bs) ]

-- an end where there is nothing left
pub ended_pieces : (s : List ℕ) → ended (pieces 10 s) ≡ eqb (length s) 0
ended_pieces [] = refl
ended_pieces (b ∷ bs) = ended_more b bs ∙ sym (ne_eqb (suc (length bs)) 0 (λ e. omega arith))
