-- Gates found one after the other: what becomes of the map and of the ends, and how many they are.
use Rattle.std.proofs.Common.{◌≡◌, ℕ, ◌+◌, true, List, [], ◌∷◌, ◌++◌, length, refl, ap, ◌∙◌, arith}
use Rattle.std.proofs.lemmas.Bool.{and_parts}
use Rattle.words.specs.Maps.{Same}
use Rattle.gates.specs.declared.end.End.{End}
use Rattle.gates.specs.declared.end.End.TheVariants.{Input, Output}
use Rattle.gates.specs.Gates.{Kind, Lawful}
use Rattle.books.specs.Ends.{held, put, sound}
use Rattle.books.proofs.PushLaws.{held_put}
use Rattle.books.proofs.Sound.{sound_put}
use Rattle.pieces.specs.Meanings.{moved, all_moved}
use Rattle.pieces.specs.Jobs.{Job, Alike, found_at, all_found}
use Rattle.pieces.specs.Runs.{gates_legal}

pub alike_trans : {G : Type 0} (n : ℕ) (i j k : Job G) → Alike n i j → Alike n j k → Alike n i k
alike_trans n i j k p q = record { map = λ x h. p.map x h ∙ q.map x h; ends = p.ends ∙ q.ends }

module _ {G : Type 0} (K : Kind G) (n : ℕ) where
  -- ---- the map alone

  pub found_map : (ps : List (End × G)) (j : Job G) → (all_found K n ps j).map ≡ all_moved K n ps j.map
  found_map [] j = refl
  found_map (p ∷ ps) j = found_map ps (found_at K n p.0 p.1 j)

  -- ---- gates after gates

  pub found_append : (ps qs : List (End × G)) (j : Job G) → all_found K n (ps ++ qs) j ≡ all_found K n qs (all_found K n ps j)
  found_append [] qs j = refl
  found_append (p ∷ ps) qs j = found_append ps qs (found_at K n p.0 p.1 j)

  pub moved_append : (ps qs : List (End × G)) (f : ℕ → ℕ) → all_moved K n (ps ++ qs) f ≡ all_moved K n qs (all_moved K n ps f)
  moved_append [] qs f = refl
  moved_append (p ∷ ps) qs f = moved_append ps qs (moved K n p.0 p.1 f)

  -- ---- the gates at the ends

  pub all_found_sound : (ps : List (End × G)) (j : Job G) → gates_legal K n ps ≡ true → sound K n j.ends ≡ true → sound K n (all_found K n ps j).ends ≡ true
  all_found_sound [] j l h = h
  all_found_sound (p ∷ ps) j l h =
      let q = and_parts (K.legal n p.1) (gates_legal K n ps) l in
      all_found_sound ps (found_at K n p.0 p.1 j) q.1 (sound_put K n p.0 p.1 j.ends h q.0)

  pub held_found : (ps : List (End × G)) (j : Job G) → held (all_found K n ps j).ends ≡ held j.ends + length ps
  held_found [] j = omega arith
  held_found (p ∷ ps) j = held_found ps (found_at K n p.0 p.1 j) ∙ omega (arith, held_put p.0 p.1 j.ends)

module _ {G : Type 0} (K : Kind G) (law : Lawful K) (n : ℕ) where
  -- ---- maps that agree on words

  pub moved_same : (e : End) (g : G) (f f' : ℕ → ℕ) → Same n f f' → Same n (moved K n e g f) (moved K n e g f')
  moved_same Input g f f' s x h = s (K.act n g x) (law.keeps n g x h)
  moved_same Output g f f' s x h = ap (K.act n g) (s x h)

  pub all_moved_same : (ps : List (End × G)) (f f' : ℕ → ℕ) → Same n f f' → Same n (all_moved K n ps f) (all_moved K n ps f')
  all_moved_same [] f f' s = s
  all_moved_same (p ∷ ps) f f' s = all_moved_same ps (moved K n p.0 p.1 f) (moved K n p.0 p.1 f') (moved_same p.0 p.1 f f' s)

  pub found_alike : (e : End) (g : G) (j k : Job G) → Alike n j k → Alike n (found_at K n e g j) (found_at K n e g k)
  found_alike e g j k a = record { map = moved_same e g j.map k.map a.map; ends = ap (put e g) a.ends }

  pub all_found_alike : (ps : List (End × G)) (j k : Job G) → Alike n j k → Alike n (all_found K n ps j) (all_found K n ps k)
  all_found_alike [] j k a = a
  all_found_alike (p ∷ ps) j k a =
      all_found_alike ps (found_at K n p.0 p.1 j) (found_at K n p.0 p.1 k) (found_alike p.0 p.1 j k a)
