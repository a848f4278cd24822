-- The gates found so far.
use Rattle.std.specs.Prelude.{◌≡◌, ℕ, ◌+◌, ◌≤◌, List, [], ◌∷◌, length, map}
use Rattle.gates.specs.declared.cnot.Cnot.{Cnot}
use Rattle.books.specs.Ends.{Ends, put}
use Rattle.clearing.specs.Clearing.{Placed, Work}
use Rattle.clearing.specs.Pairs.{pairs}
use Rattle.elimination.specs.declared.placed.Placed.{Placed as Held}
use Rattle.elimination.specs.declared.pair.clear.Found.{Found}
use Rattle.elimination.specs.Additions.{at_end}
use Rattle.elimination.specs.States.{state_of}

-- Gates, each with its end.
abbrev pub at_ends : List Held → List Placed
at_ends gates = map at_end gates

-- What was found, as a state of the clearing.
abbrev pub work_of : Found → Work pairs
work_of f = record { state = state_of f.pair; gates = at_ends f.gates.items }

-- A step of the clearing, which finds no more gates than `most`.
pub record Done (most : ℕ) (step : Work pairs → Work pairs) (f f' : Found) : Type 0 where
  pub lines : f'.pair.lines ≡ f.pair.lines
  pub few : length f'.gates.items ≤ length f.gates.items + most
  pub work : work_of f' ≡ step (work_of f)

-- Gates put one after the other, each at its end.
abbrev pub all_put : List Placed → Ends Cnot → Ends Cnot
all_put [] e = e
all_put (p ∷ ps) e = all_put ps (put p.0 p.1 e)
