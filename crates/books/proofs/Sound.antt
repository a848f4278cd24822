-- Which gates at the two ends are legal.
use Rattle.std.proofs.Common.{◌≡◌, ℕ, true, ◌&&◌, List, [], ◌∷◌, reverse, Some, sym, refl, ap, ◌∙◌}
use mathlib.Core.List.{reverse-cons}
use mathlib.Core.Bool.{and_comm}
use Rattle.std.proofs.lemmas.Bool.{and_parts, and_from}
use Rattle.gates.specs.declared.end.End.{End}
use Rattle.gates.specs.declared.end.End.TheVariants.{Input, Output}
use Rattle.gates.specs.Gates.{Kind}
use Rattle.gates.specs.Circuits.{all_legal}
use Rattle.gates.specs.CircuitLaws.{legal_append, legal_push}
use Rattle.books.specs.Ends.{Ends, found, circuit, put, strike, last, front, sound}
use Rattle.books.proofs.EndLaws.{last_split}

module _ {G : Type 0} (K : Kind G) (n : ℕ) where
  pub legal_reverse : (xs : List G) → all_legal K n (reverse xs) ≡ all_legal K n xs
  legal_reverse [] = refl
  legal_reverse (x ∷ xs) =
      ap (all_legal K n) (reverse-cons x xs) ∙ legal_push K n (reverse xs) x
      ∙ ap (λ b. b && K.legal n x) (legal_reverse xs) ∙ and_comm (all_legal K n xs) (K.legal n x)

  -- a book's circuit is legal exactly where both ends are
  pub legal_circuit : (es : Ends G) → all_legal K n (circuit es) ≡ sound K n es
  legal_circuit es = legal_append K n es.ins (reverse es.outs) ∙ ap (λ b. all_legal K n es.ins && b) (legal_reverse es.outs)

  -- the last of a list of legal gates is legal, and so are the others
  legal_split : (xs : List G) (g : G) → last xs ≡ Some g → all_legal K n xs ≡ true → (all_legal K n (front xs) ≡ true) × (K.legal n g ≡ true)
  legal_split xs g e h =
      and_parts (all_legal K n (front xs)) (K.legal n g) (sym (legal_push K n (front xs) g) ∙ ap (all_legal K n) (sym (last_split xs g e)) ∙ h)

  sound_parts : (es : Ends G) → sound K n es ≡ true → (all_legal K n es.ins ≡ true) × (all_legal K n es.outs ≡ true)
  sound_parts es h = and_parts (all_legal K n es.ins) (all_legal K n es.outs) h

  pub last_legal : (e : End) (es : Ends G) (g : G) → sound K n es ≡ true → last (found e es) ≡ Some g → K.legal n g ≡ true
  last_legal Input es g h p = (legal_split es.ins g p (sound_parts es h).0).1
  last_legal Output es g h p = (legal_split es.outs g p (sound_parts es h).1).1

  pub sound_put : (e : End) (g : G) (es : Ends G) → sound K n es ≡ true → K.legal n g ≡ true → sound K n (put e g es) ≡ true
  sound_put Input g es h p =
      let q = sound_parts es h in
      and_from _ _ (legal_push K n es.ins g ∙ and_from _ _ q.0 p) q.1
  sound_put Output g es h p =
      let q = sound_parts es h in
      and_from _ _ q.0 (legal_push K n es.outs g ∙ and_from _ _ q.1 p)

  pub sound_strike : (e : End) (g : G) (es : Ends G) → last (found e es) ≡ Some g → sound K n es ≡ true → sound K n (strike e es) ≡ true
  sound_strike Input g es e h = let q = sound_parts es h in and_from _ _ (legal_split es.ins g e q.0).0 q.1
  sound_strike Output g es e h = let q = sound_parts es h in and_from _ _ q.0 (legal_split es.outs g e q.1).0
