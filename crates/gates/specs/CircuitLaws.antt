-- Circuits: whether their gates are legal, and what they make of words.
use Rattle.std.specs.Prelude.{◌≡◌, ℕ, ◌+◌, ◌^◌, ◌<◌, Bool, true, false, ◌&&◌, List, [], ◌∷◌, ◌++◌, reverse, length, take, slice_index_or, refl}
use Rattle.std.proofs.Common.{sym, ap, ap₂, ◌∙◌}
use mathlib.Core.List.{reverse-cons}
use Rattle.std.proofs.Math.Bool.{and-true}
use Rattle.std.proofs.lemmas.List.{take_more}
use Rattle.std.proofs.lemmas.List.Folds.{list_all-append, list_all_more}
use Rattle.std.proofs.lemmas.List.Sums.{fold-append, AllPass-from_list_all}
use Rattle.gates.specs.Gates.{Kind, Lawful}
use Rattle.gates.specs.Circuits.{through, all_legal}

module _ {G : Type 0} (K : Kind G) (n : ℕ) where
  pub legal_append : (xs ys : List G) → all_legal K n (xs ++ ys) ≡ (all_legal K n xs && all_legal K n ys)
  legal_append = list_all-append (K.legal n)

  pub legal_push : (xs : List G) (g : G) → all_legal K n (xs ++ g ∷ []) ≡ (all_legal K n xs && K.legal n g)
  legal_push xs g = legal_append xs (g ∷ []) ∙ ap (λ b. all_legal K n xs && b) (and-true (K.legal n g))

  pub through_append : (xs ys : List G) (x : ℕ) → through K n (xs ++ ys) x ≡ through K n ys (through K n xs x)
  through_append xs ys x = fold-append (λ w g. K.act n g w) x xs ys

  -- ---- a circuit that is gone through gate by gate: gate g at i comes next

  pub take_next : (gs : List G) (i : ℕ) (g : G) → i < length gs → g ≡ slice_index_or gs i g → take (i + 1) gs ≡ take i gs ++ g ∷ []
  take_next gs i g h is = take_more gs i g h ∙ ap (λ x. take i gs ++ x ∷ []) (sym is)

  pub through_more : (gs : List G) (i : ℕ) (g : G) (x y z : ℕ) → i < length gs → g ≡ slice_index_or gs i g → y ≡ through K n (take i gs) x → z ≡ K.act n g y → z ≡ through K n (take (i + 1) gs) x
  through_more gs i g x y z h is before next =
      next ∙ ap (K.act n g) before ∙ sym (ap (λ l. through K n l x) (take_next gs i g h is) ∙ through_append (take i gs) (g ∷ []) x)

  pub legal_more : (gs : List G) (i : ℕ) (g : G) (sofar here : Bool) → i < length gs → g ≡ slice_index_or gs i g → sofar ≡ all_legal K n (take i gs) → here ≡ K.legal n g → (sofar && here) ≡ all_legal K n (take (i + 1) gs)
  legal_more gs i g sofar here h is before next =
      ap₂ ◌&&◌ before (next ∙ ap (K.legal n) is) ∙ sym (list_all_more (K.legal n) gs i g h)

  pub legal_at : (gs : List G) (i : ℕ) (g : G) → i < length gs → g ≡ slice_index_or gs i g → all_legal K n gs ≡ true → K.legal n g ≡ true
  legal_at gs i g h is all = ap (K.legal n) is ∙ AllPass-from_list_all (K.legal n) gs all i g h

  -- where no gate is legal, every word stays
  pub through_idle : Lawful K → ((g : G) → K.legal n g ≡ false) → (xs : List G) (x : ℕ) → through K n xs x ≡ x
  through_idle law none [] x = refl
  through_idle law none (g ∷ gs) x = ap (through K n gs) (law.idle n g x (none g)) ∙ through_idle law none gs x

module _ {G : Type 0} (K : Kind G) (law : Lawful K) (n : ℕ) where
  pub through_keeps : (xs : List G) (x : ℕ) → x < 2 ^ n → through K n xs x < 2 ^ n
  through_keeps [] x h = h
  through_keeps (g ∷ gs) x h = through_keeps gs (K.act n g x) (law.keeps n g x h)

  -- a gate undoes itself
  pub undone : (g : G) (x : ℕ) → K.act n g (K.act n g x) ≡ x
  undone g x = law.twice n g x

  -- the gates once more, in the other order, undo them
  pub through_back : (xs : List G) (x : ℕ) → through K n (reverse xs) (through K n xs x) ≡ x
  through_back [] x = refl
  through_back (g ∷ gs) x =
      ap (λ l. through K n l (through K n gs (K.act n g x))) (reverse-cons g gs)
      ∙ through_append K n (reverse gs) (g ∷ []) (through K n gs (K.act n g x))
      ∙ ap (K.act n g) (through_back gs (K.act n g x)) ∙ undone g x
