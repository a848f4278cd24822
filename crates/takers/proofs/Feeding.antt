-- Feeding no gate, and one gate more.
use Rattle.std.proofs.Common.{◌≡◌, ℕ, ◌+◌, ◌^◌, ◌<◌, ◌≤◌, true, List, [], ◌∷◌, ◌++◌, length, get_or, take, sym, refl, ap, ◌∙◌, subst, arith, length-append, length-take}
use Rattle.gates.specs.Gates.{Kind}
use Rattle.gates.specs.Circuits.{all_legal}
use Rattle.gates.specs.CircuitLaws.{through_append, take_next, legal_at}
use Rattle.takers.specs.Meanings.{Meaning, Fed, FedAll}

module _ {G : Type 0} (K : Kind G) (m : Meaning) where
  pub fed_none : FedAll K m [] m
  fed_none = record { same_lines = refl; follows = λ w h. refl; falls = omega arith }

  pub fed_push : (gs : List G) (a : Meaning) (g : G) (b : Meaning) → FedAll K m gs a → Fed K a g b → FedAll K m (gs ++ g ∷ []) b
  fed_push gs a g b all one = record {
    same_lines = one.same_lines ∙ all.same_lines;
    follows = λ w h.
        one.follows w (subst (λ (n : ℕ). w < 2 ^ n) (sym all.same_lines) h)
        ∙ ap (λ (n : ℕ). K.act n g (a.map w)) all.same_lines ∙ ap (K.act m.lines g) (all.follows w h)
        ∙ sym (through_append K m.lines gs (g ∷ []) (m.map w));
    falls = simp length-append (omega (arith, all.falls, one.falls));
  }

  -- gate g comes next, at i, in a circuit of legal gates with a place for each
  module _ (gs : List G) (i : ℕ) (g : G) (h : i < length gs) (is : g ≡ get_or gs i g) (a : Meaning) (before : FedAll K m (take i gs) a) where
    pub next_legal : all_legal K m.lines gs ≡ true → K.legal a.lines g ≡ true
    next_legal all = ap (λ (n : ℕ). K.legal n g) before.same_lines ∙ legal_at K m.lines gs i g h is all

    pub next_fits : length gs ≤ m.free → 1 ≤ a.free
    next_fits room = omega (arith, before.falls, length-take i gs)

    pub fed_more : (b : Meaning) → Fed K a g b → FedAll K m (take (i + 1) gs) b
    fed_more b one = subst (λ l. FedAll K m l b) (sym (take_next K m.lines gs i g h is)) (fed_push (take i gs) a g b before one)
