-- What a taker means, and what feeding it comes to.
use Rattle.std.specs.Prelude.{◌≡◌, ℕ, ◌+◌, ◌≤◌, List, length, Result}
use Rattle.words.specs.Maps.{Same}
use Rattle.gates.specs.declared.refusal.Refusal.{Refusal}
use Rattle.gates.specs.Refusals.{answer, unless_legal, short}
use Rattle.gates.specs.Gates.{Kind}
use Rattle.gates.specs.Circuits.{through, all_legal}

-- Its number of lines, what the gates taken so far make of a word, and how many more gates it is sure to take.
pub record Meaning : Type 0 where
  pub lines : ℕ
  pub map : ℕ → ℕ
  pub free : ℕ

module _ {G : Type 0} (K : Kind G) (m : Meaning) where
  -- The answer to a gate: an illegal one is declined, and a legal one exactly when no place is free.
  abbrev pub accept : G → Result (Unit {0}) Refusal
  accept g = answer (unless_legal (K.legal m.lines g) (short 1 m.free))

  -- The answer to a list of gates, of which all are taken or none.
  abbrev pub accept_all : List G → Result (Unit {0}) Refusal
  accept_all gs = answer (unless_legal (all_legal K m.lines gs) (short (length gs) m.free))

  -- With a gate taken: the old map followed by the gate, and at most one place fewer.
  pub record Fed (g : G) (m' : Meaning) : Type 0 where
    pub same_lines : m'.lines ≡ m.lines
    pub follows : Same m.lines m'.map (λ w. K.act m.lines g (m.map w))
    pub falls : m.free ≤ m'.free + 1

  -- With gates taken in their order: at most one place fewer for each.
  pub record FedAll (gs : List G) (m' : Meaning) : Type 0 where
    pub same_lines : m'.lines ≡ m.lines
    pub follows : Same m.lines m'.map (λ w. through K m.lines gs (m.map w))
    pub falls : m.free ≤ m'.free + length gs
