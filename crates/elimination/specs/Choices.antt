-- A gate chosen by its gain, one gate at a time.
use Rattle.std.specs.Prelude.{◌≡◌, ℕ, cond, List, [], ◌∷◌, Some, None, Option, nat_lt}
use Rattle.clearing.specs.Clearing.{Placed}
use Rattle.clearing.specs.Pairs.{pairs, cost}
use Rattle.clearing.specs.Pairs.{Pair as State}
use Rattle.elimination.specs.declared.pair.choice.Choice.{Choice}
use Rattle.elimination.specs.Additions.{placed, Within}

-- The choice so far, if any, against one gate more.
abbrev pub choose : State → Option Placed → Placed → Option Placed
choose s None g = Some g
choose s (Some f) g = Some (cond (nat_lt (cost (pairs.place g s)) (cost (pairs.place f s))) g f)

abbrev pub best_of : State → Option Placed → List Placed → Option Placed
best_of s o [] = o
best_of s o (g ∷ gs) = best_of s (choose s o g) gs

-- An addition chosen, as a gate.
abbrev pub gate_of : Option Choice → Option Placed
gate_of None = None
gate_of (Some c) = Some (placed c.addition)

-- The cost is the one that the gate leads to, and the gate is legal.
abbrev pub Fits : ℕ → State → Option Choice → Type 0
Fits n s None = Unit {0}
Fits n s (Some c) = (c.cost ≡ cost (pairs.place (placed c.addition) s)) × Within n c.addition
