-- What a canceller's held gate does.
use Rattle.std.specs.Prelude.{◌≡◌, ℕ, ◌-◌, ◌≤◌, true, Some, None, Ok, Option, Result, ◌≢◌}
use Rattle.words.specs.Maps.{Same}
use Rattle.gates.specs.declared.refusal.Refusal.{Refusal}
use Rattle.gates.specs.Gates.{Kind}
use Rattle.takers.specs.Meanings.{Meaning, accept, Fed}
use Rattle.takers.specs.declared.canceller.Canceller.{Canceller}

-- A word after the held gate, if any.
abbrev pub after : {G : Type 0} → (G → ℕ → ℕ) → Option G → ℕ → ℕ
after act None w = w
after act (Some g) w = act g w

-- The free places below, less one, if any, while a gate is held.
abbrev pub spare : {G : Type 0} → Option G → ℕ → ℕ
spare None free = free
spare (Some g) free = free - 1

-- What a canceller means, over the meaning of the taker below.
module _ {T G : Type 0} (K : Kind G) (below : T → Meaning) where
  abbrev pub cancelling : Canceller T G → Meaning
  cancelling c = record {
    lines = (below c.below).lines;
    map = λ w. after (K.act (below c.below).lines) c.held ((below c.below).map w);
    free = spare c.held (below c.below).free;
  }

  -- The answer to a flush: that of the taker below to the held gate.
  abbrev pub sends : Canceller T G → Result (Unit {0}) Refusal
  sends c = elim c.held [ None ↦ Ok tt | Some g ↦ accept K (below c.below) g ]

  -- A flush: the held gate, if any, has gone below.
  abbrev pub Flushed : Canceller T G → Canceller T G → Type 0
  Flushed c c' = elim c.held [ None ↦ c' ≡ c | Some g ↦ (c'.held ≡ None) × Fed K (below c.below) g (below c'.below) ]

  -- An accepted gate g is held, and the gate held before has gone below; or its equal was held, and both vanish.
  abbrev pub Cancelled : G → Canceller T G → Canceller T G → Type 0
  Cancelled g c c' = elim c.held [
    | None ↦ (c'.held ≡ Some g) × (c'.below ≡ c.below)
    | Some h ↦ (h ≡ g → (c'.held ≡ None) × (c'.below ≡ c.below)) × ((h ≢ g) → (c'.held ≡ Some g) × Fed K (below c.below) h (below c'.below))
  ]

  -- The held gate, if any, would be taken below.
  abbrev pub Sendable : Canceller T G → Type 0
  Sendable c = elim c.held [ None ↦ Unit {0} | Some g ↦ (K.legal (below c.below).lines g ≡ true) × (1 ≤ (below c.below).free) ]

-- The same map on the same lines, and no place fewer.
pub record Finished (m m' : Meaning) : Type 0 where
  pub same_lines : m'.lines ≡ m.lines
  pub same_map : Same m.lines m'.map m.map
  pub room : m.free ≤ m'.free
