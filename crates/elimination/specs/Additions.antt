-- The addition of a line to another, and its gate.
use Rattle.std.specs.Prelude.{ℕ, ◌<◌}
use Rattle.clearing.specs.Clearing.{Placed, adding}
use Rattle.elimination.specs.declared.addition.Addition.{Addition}
use Rattle.elimination.specs.declared.placed.Placed.{Placed as Held}

-- A gate with its end.
abbrev pub at_end : Held → Placed
at_end p = (p.end, p.gate)

-- The gate that makes an addition, with its end.
abbrev pub placed : Addition → Placed
placed a = adding a.end a.from a.to

-- Both lines are among the first n.
pub record Within (n : ℕ) (a : Addition) : Type 0 where
  pub from : a.from < n
  pub to : a.to < n
