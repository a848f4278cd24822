-- A piece of one line: what its run does.
use Rattle.std.proofs.Common.{◌≡◌, ℕ, ◌^◌, ◌<◌, ◌≤◌, true, cond, eqb, List, [], ◌∷◌, length, sym, refl, ap, ◌∙◌, subst, ⊎_elim, arith, lit≤, slice_index}
use Rattle.std.proofs.lemmas.Bool.{cases_eq}
use Rattle.std.proofs.lemmas.Nat.{pow_pos}
use Rattle.words.specs.Maps.{Same, Identity}
use Rattle.gates.specs.Mcts.{mct}
use Rattle.gates.specs.declared.end.End.{End}
use Rattle.gates.specs.declared.end.End.TheVariants.{Output}
use Rattle.gates.specs.declared.mct.Mct.{Mct}
use Rattle.books.specs.declared.Book.{Book}
use Rattle.books.specs.Ends.{put}
use Rattle.books.specs.Books.{ends}
use Rattle.pieces.specs.Meanings.{Meaning, moved}
use Rattle.pieces.specs.Jobs.{Alike, shown, all_found}
use Rattle.pieces.specs.Runs.{Ran, gates_legal}
use Rattle.wires.specs.Wires.{wire_meaning, wire_plan, invert}
use Rattle.wires.specs.declared.wire.Wire.{Wire}

-- by the two words
both_words : (P : ℕ → Type 0) → P 0 → P 1 → (x : ℕ) → x < 2 ^ 1 → P x
both_words P p q x h =
    ⊎_elim (λ e. subst P (sym e) p) (λ e. let k : 1 ≡ x = omega arith in subst P k q) (cases_eq x 0)

-- the gates of the plan, by the image of 0
abbrev planned : ℕ → List (End × Mct)
planned z = cond (eqb z 0) [] ((Output, invert) ∷ [])

-- what a piece of these images means
abbrev map_of : List ℕ → ℕ → ℕ
map_of images x = cond (eqb x 0) (slice_index images 0) (slice_index images 1)

abbrev meaning : List ℕ → Meaning
meaning images = record { lines = 1; map = map_of images }

module _ (w : Wire) where
  -- the image of a word
  abbrev at : ℕ → ℕ
  at = map_of w.images

  -- a run that finds these gates and leaves these images
  ran : (ps : List (End × Mct)) (images : List ℕ) (b b' : Book Mct) → wire_plan.gates 1 at ≡ ps → Alike 1 (shown (meaning images) b') (all_found mct 1 ps (shown (wire_meaning w) b)) →
      gates_legal mct 1 ps ≡ true → length ps ≤ 1 → Identity 1 (map_of images) → Ran mct wire_plan (wire_meaning w) b (meaning images) b'
  ran ps images b b' is alike legal few identity = record {
    same_lines = refl;
    found = subst (λ qs. Alike 1 (shown (meaning images) b') (all_found mct 1 qs (shown (wire_meaning w) b))) (sym is) alike;
    legal = ap (gates_legal mct 1) is ∙ legal;
    few = subst (λ qs. length qs ≤ 1) (sym is) few;
    identity = identity;
    local = λ n f g s. ap planned (s 0 (pow_pos n));
  }

  -- where 0 is its own image, nothing is to do
  pub ran_none : (b : Book Mct) → at 0 ≡ 0 → (at 0 ≡ at 1 → ⊥) → Ran mct wire_plan (wire_meaning w) b (wire_meaning w) b
  ran_none b z differ =
      let o : at 1 ≡ 1 = omega (arith, w.fits 1) in
      ran [] w.images b b (ap planned z) (record { map = λ x h. refl; ends = refl }) refl (lit≤ tt) (both_words (λ x. at x ≡ x) z o)

  -- where 0 and 1 are exchanged, one gate is found
  pub ran_one : (b b' : Book Mct) → (at 0 ≡ 0 → ⊥) → (at 0 ≡ at 1 → ⊥) → ends b' ≡ put Output invert (ends b) → Ran mct wire_plan (wire_meaning w) b (meaning (0 ∷ 1 ∷ [])) b'
  ran_one b b' nz differ found =
      let z : at 0 ≡ 1 = omega (arith, w.fits 0) in
      let o : at 1 ≡ 0 = omega (arith, w.fits 0, w.fits 1) in
      let straight = map_of (0 ∷ 1 ∷ []) in
      let here : Same 1 straight (moved mct 1 Output invert at) =
      both_words (λ x. straight x ≡ moved mct 1 Output invert at x) (sym (ap (mct.act 1 invert) z)) (sym (ap (mct.act 1 invert) o)) in
      ran ((Output, invert) ∷ []) (0 ∷ 1 ∷ []) b b' (ap planned z) (record { map = here; ends = found }) refl (lit≤ tt) (both_words (λ x. straight x ≡ x) refl refl)
