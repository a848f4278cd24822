-- What a gate list holds.
use Rattle.std.specs.Prelude.{◌≡◌, ℕ, ◌+◌, ◌-◌, Bool, ◌||◌, List, [], ◌∷◌, ◌++◌, length, take, None, Ok, Err, Decides, Result, ◌≢◌, nat_lt, slice_set}
use denote.Ref.{MutBor, at_last}
use Rattle.words.specs.Maps.{Same}
use Rattle.gates.specs.declared.refusal.Refusal.{Refusal}
use Rattle.gates.specs.declared.refusal.Refusal.TheVariants.{WrongSize, LinesDiffer}
use Rattle.gates.specs.Refusals.{answer, first}
use Rattle.gates.specs.Gates.{Kind}
use Rattle.gates.specs.Circuits.{through}
use Rattle.takers.specs.Meanings.{Meaning}
use Rattle.takers.specs.declared.list.GateList.{GateList}

module _ {G : Type 0} where
  -- Its gates, in order.
  abbrev pub held : GateList G → List G
  held l = take l.used l.places.now

  -- Its map runs its gates in order, and its free places are those unused.
  abbrev pub list_meaning : Kind G → GateList G → Meaning
  list_meaning K l = record { lines = l.lines; map = through K l.lines (held l); free = length l.places.now - l.used }

  -- What it is made of: the memory, how many places hold a gate, and the number of lines.
  abbrev pub parts : GateList G → MutBor (List G) × ℕ × ℕ
  parts l = (l.places, l.used, l.lines)

  -- An empty list on 1 line, over this memory.
  abbrev pub fresh : MutBor (List G) → MutBor (List G) × ℕ × ℕ
  fresh memory = (memory, 0, 1)

  -- The list emptied, on n lines. No place is written.
  abbrev pub restarted : ℕ → GateList G → MutBor (List G) × ℕ × ℕ
  restarted n l = (l.places, 0, n)

  -- The answer to a number of lines, of which the gate kind has limits.
  abbrev pub restarts : Kind G → ℕ → Result (Unit {0}) Refusal
  restarts K n = answer (first (nat_lt n 1 || nat_lt K.most n) WrongSize None)

  -- The list with one gate more, which is written at the first unused place.
  abbrev pub with_gate : G → GateList G → MutBor (List G) × ℕ × ℕ
  with_gate g l = (at_last l.places (slice_set l.places.now l.used g), l.used + 1, l.lines)

  pub record Pushed (g : G) (l l' : GateList G) : Type 0 where
    pub whole : parts l' ≡ with_gate g l
    pub gates : held l' ≡ held l ++ g ∷ []

-- The answer to whether two lists have the same map: line counts that differ are declined.
abbrev pub SameMap : Meaning → Meaning → Result Bool Refusal → Type 0
SameMap a b (Ok same) = (a.lines ≡ b.lines) × Decides same (Same a.lines a.map b.map)
SameMap a b (Err why) = (a.lines ≢ b.lines) × (why ≡ LinesDiffer)
