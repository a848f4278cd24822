-- The gates found at the two ends of a circuit, each list in the order found.
use Rattle.std.specs.Prelude.{ℕ, ◌+◌, Bool, ◌&&◌, List, [], ◌∷◌, ◌++◌, reverse, length, Some, None, Option}
use Rattle.gates.specs.Gates.{Kind}
use Rattle.gates.specs.Circuits.{all_legal}
use Rattle.gates.specs.declared.end.End.{End}
use Rattle.gates.specs.declared.end.End.TheVariants.{Input, Output}

pub record Ends (G : Type 0) : Type 0 where
  pub ins : List G
  pub outs : List G

abbrev pub empty : {G : Type 0} → Ends G
empty = record { ins = []; outs = [] }

abbrev pub found : {G : Type 0} → End → Ends G → List G
found Input e = e.ins
found Output e = e.outs

abbrev pub held : {G : Type 0} → Ends G → ℕ
held e = length e.ins + length e.outs

-- The input gates in the order found, then the output gates with the last found first.
abbrev pub circuit : {G : Type 0} → Ends G → List G
circuit e = e.ins ++ reverse e.outs

-- One gate more at an end.
abbrev pub put : {G : Type 0} → End → G → Ends G → Ends G
put Input g e = record { ins = e.ins ++ g ∷ []; outs = e.outs }
put Output g e = record { ins = e.ins; outs = e.outs ++ g ∷ [] }

-- The last of a list, and the list without it.
abbrev pub last : {G : Type 0} → List G → Option G
last [] = None
last (x ∷ []) = Some x
last (x ∷ (y ∷ ys)) = last (y ∷ ys)

abbrev pub front : {G : Type 0} → List G → List G
front [] = []
front (x ∷ []) = []
front (x ∷ (y ∷ ys)) = x ∷ front (y ∷ ys)

-- The last gate of an end struck.
abbrev pub strike : {G : Type 0} → End → Ends G → Ends G
strike Input e = record { ins = front e.ins; outs = e.outs }
strike Output e = record { ins = e.ins; outs = front e.outs }

-- One end without its gates.
abbrev pub emptied : {G : Type 0} → End → Ends G → Ends G
emptied Input e = record { ins = []; outs = e.outs }
emptied Output e = record { ins = e.ins; outs = [] }

-- Every gate is legal on n lines.
abbrev pub sound : {G : Type 0} → Kind G → ℕ → Ends G → Bool
sound K n e = all_legal K n e.ins && all_legal K n e.outs
