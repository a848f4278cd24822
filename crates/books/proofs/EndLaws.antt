-- The two ends: the last gate of a list, and the list without it.
use Rattle.std.proofs.Common.{◌≡◌, suc, ◌-◌, ◌<◌, List, [], ◌∷◌, ◌++◌, reverse, length, get_or, Some, None, sym, refl, ap, ◌∙◌, ap₂, arith}
use Rattle.std.specs.List.{slice_get}
use Rattle.std.proofs.lemmas.List.{length-reverse, get_or-reverse}
use Rattle.std.proofs.lemmas.Option.{slice_get-get_or}
use Rattle.gates.specs.declared.end.End.{End}
use Rattle.gates.specs.declared.end.End.TheVariants.{Input, Output}
use Rattle.books.specs.Ends.{Ends, found, strike, last, front}

module _ {G : Type 0} where
  pub ends_same : (a b : Ends G) → a.ins ≡ b.ins → a.outs ≡ b.outs → a ≡ b
  ends_same a b = ap₂ (λ is os. record { ins = is; outs = os })

  pub last_push : (xs : List G) (x : G) → last (xs ++ x ∷ []) ≡ Some x
  last_push [] x = refl
  last_push (y ∷ []) x = refl
  last_push (y ∷ (z ∷ zs)) x = last_push (z ∷ zs) x

  pub front_push : (xs : List G) (x : G) → front (xs ++ x ∷ []) ≡ xs
  front_push [] x = refl
  front_push (y ∷ []) x = refl
  front_push (y ∷ (z ∷ zs)) x = ap (λ l. y ∷ l) (front_push (z ∷ zs) x)

  -- the last of a list by its position, and as the first of its reverse
  pub last_get : (xs : List G) → slice_get xs (length xs - 1) ≡ last xs
  last_get [] = refl
  last_get (x ∷ []) = refl
  last_get (x ∷ (y ∷ ys)) =
      let e : length (x ∷ (y ∷ ys)) - 1 ≡ suc (length (y ∷ ys) - 1) = omega arith in ap (slice_get (x ∷ (y ∷ ys))) e ∙ last_get (y ∷ ys)

  pub first_reversed : (xs : List G) → slice_get (reverse xs) 0 ≡ last xs
  first_reversed [] = refl
  first_reversed (x ∷ xs) =
      let l = x ∷ xs in
      slice_get-get_or (reverse l) 0 x (omega (arith, length-reverse l)) ∙ ap Some (get_or-reverse l 0 x (omega arith) ∙ ap (λ n. get_or l n x) (omega arith))
      ∙ sym (slice_get-get_or l (length l - 1) x (omega arith)) ∙ last_get l

  pub last_split : (xs : List G) (g : G) → last xs ≡ Some g → xs ≡ front xs ++ g ∷ []
  last_split [] g e = cc
  last_split (x ∷ []) g e = cc
  last_split (x ∷ (y ∷ ys)) g e = ap (λ l. x ∷ l) (last_split (y ∷ ys) g e)

  last_none : (xs : List G) → last xs ≡ None → front xs ≡ xs
  last_none [] e = refl
  last_none (x ∷ []) e = cc
  last_none (x ∷ (y ∷ ys)) e = ap (λ l. x ∷ l) (last_none (y ∷ ys) e)

  pub last_within : (xs : List G) (g : G) → last xs ≡ Some g → 0 < length xs
  last_within [] g e = cc
  last_within (x ∷ xs) g e = omega arith

  -- an end with no gate stays as it is
  pub strike_none : (e : End) (es : Ends G) → last (found e es) ≡ None → strike e es ≡ es
  strike_none Input es none = ends_same (strike Input es) es (last_none es.ins none) refl
  strike_none Output es none = ends_same (strike Output es) es refl (last_none es.outs none)
