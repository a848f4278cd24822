-- Gates at the ends of a map, all at one end or first those at the input.
use Rattle.std.proofs.Common.{◌≡◌, ℕ, ◌^◌, ◌<◌, true, List, [], ◌∷◌, ◌++◌, refl, ap, ◌∙◌}
use Rattle.std.specs.List.{AllByRecursion}
use Rattle.std.proofs.lemmas.Bool.{and_parts, and_from}
use Rattle.gates.specs.Gates.{Kind, Lawful}
use Rattle.gates.specs.Circuits.{through, all_legal}
use Rattle.gates.specs.declared.end.End.{End}
use Rattle.gates.specs.declared.end.End.TheVariants.{Input, Output}
use Rattle.pieces.specs.Meanings.{moved, all_moved}
use Rattle.pieces.specs.Runs.{gates_legal}
use Rattle.pieces.proofs.Finding.{moved_append}
use Rattle.mapping.specs.Took.{at_end}

-- a word that passes the gates from the last to the first
abbrev pub back : {G : Type 0} → Kind G → ℕ → List G → ℕ → ℕ
back K n [] x = x
back K n (g ∷ gs) x = K.act n g (back K n gs x)

module _ {G : Type 0} (K : Kind G) (n : ℕ) where
  moved_inputs : (gs : List G) (f : ℕ → ℕ) (x : ℕ) → all_moved K n (at_end Input gs) f x ≡ f (back K n gs x)
  moved_inputs [] f x = refl
  moved_inputs (g ∷ gs) f x = moved_inputs gs (moved K n Input g f) x

  moved_outputs : (gs : List G) (f : ℕ → ℕ) (x : ℕ) → all_moved K n (at_end Output gs) f x ≡ through K n gs (f x)
  moved_outputs [] f x = refl
  moved_outputs (g ∷ gs) f x = moved_outputs gs (moved K n Output g f) x

  pub moved_both : (gs hs : List G) (f : ℕ → ℕ) (x : ℕ) → all_moved K n (at_end Input gs ++ at_end Output hs) f x ≡ through K n hs (f (back K n gs x))
  moved_both gs hs f x =
      ap (λ (h : ℕ → ℕ). h x) (moved_append K n (at_end Input gs) (at_end Output hs) f)
      ∙ moved_outputs hs (all_moved K n (at_end Input gs) f) x
      ∙ ap (through K n hs) (moved_inputs gs f x)

  -- gates that each leave the words below i
  pub through_spares : (i : ℕ) (gs : List G) → AllByRecursion (λ g. (z : ℕ) → z < i → K.act n g z ≡ z) gs → (z : ℕ) → z < i → through K n gs z ≡ z
  through_spares i [] s z h = refl
  through_spares i (g ∷ gs) s z h = ap (through K n gs) (s.0 z h) ∙ through_spares i gs s.1 z h

  pub back_spares : (i : ℕ) (gs : List G) → AllByRecursion (λ g. (z : ℕ) → z < i → K.act n g z ≡ z) gs → (z : ℕ) → z < i → back K n gs z ≡ z
  back_spares i [] s z h = refl
  back_spares i (g ∷ gs) s z h = ap (K.act n g) (back_spares i gs s.1 z h) ∙ s.0 z h

  -- legal gates, at whichever ends
  pub legal_at_end : (e : End) (gs : List G) → all_legal K n gs ≡ true → gates_legal K n (at_end e gs) ≡ true
  legal_at_end e [] h = refl
  legal_at_end e (g ∷ gs) h =
      let p = and_parts (K.legal n g) (all_legal K n gs) h in
      and_from (K.legal n g) _ p.0 (legal_at_end e gs p.1)

  pub legal_both : (ps qs : List (End × G)) → gates_legal K n ps ≡ true → gates_legal K n qs ≡ true → gates_legal K n (ps ++ qs) ≡ true
  legal_both [] qs hp hq = hq
  legal_both (p ∷ ps) qs hp hq =
      let r = and_parts (K.legal n p.1) (gates_legal K n ps) hp in
      and_from (K.legal n p.1) _ r.0 (legal_both ps qs r.1 hq)

module _ {G : Type 0} (K : Kind G) (law : Lawful K) (n : ℕ) where
  pub back_keeps : (gs : List G) (x : ℕ) → x < 2 ^ n → back K n gs x < 2 ^ n
  back_keeps [] x h = h
  back_keeps (g ∷ gs) x h = law.keeps n g (back K n gs x) (back_keeps gs x h)

  pub back_through : (gs : List G) (x : ℕ) → back K n gs (through K n gs x) ≡ x
  back_through [] x = refl
  back_through (g ∷ gs) x = ap (K.act n g) (back_through gs (K.act n g x)) ∙ law.twice n g x

  pub through_back : (gs : List G) (x : ℕ) → through K n gs (back K n gs x) ≡ x
  through_back [] x = refl
  through_back (g ∷ gs) x = ap (through K n gs) (law.twice n g (back K n gs x)) ∙ through_back gs x
