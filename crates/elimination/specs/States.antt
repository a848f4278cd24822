-- The matrix and its inverse that a pair stands for.
use Rattle.std.specs.Prelude.{◌≡◌, ℕ, Some, Ok, Err, Result}
use Rattle.words.specs.Maps.{Clash}
use Rattle.gates.specs.declared.end.End.{End}
use Rattle.gates.specs.declared.end.End.TheVariants.{Input, Output}
use Rattle.gates.specs.declared.refusal.Refusal.{Refusal}
use Rattle.gates.specs.declared.refusal.Refusal.TheVariants.{SharedImage}
use Rattle.matrices.specs.Matrices.{image}
use Rattle.matrices.specs.Meanings.{rows_of}
use Rattle.matrices.specs.declared.matrix.Matrix.{Matrix}
use Rattle.clearing.specs.Pairs.{Pair as State}
use Rattle.elimination.specs.declared.half.Half.{Half}
use Rattle.elimination.specs.declared.pair.Pair.{Pair}
use Rattle.elimination.specs.Layouts.{held}

abbrev pub state_of : Pair → State
state_of p = held p.lines p.rows p.columns

-- The layout whose words are the lines of an end.
abbrev pub half_at : End → Pair → Half
half_at Output p = p.rows
half_at Input p = p.columns

-- The pair of a matrix; a matrix with a clash has none, and the clash is told.
abbrev pub Paired : Matrix → Result Pair Refusal → Type 0
Paired m (Ok p) = (p.lines ≡ m.lines) × ((state_of p).matrix ≡ rows_of m)
Paired m (Err why) = (c : ℕ × ℕ) × Clash m.lines (image (rows_of m)) (Some c) × (why ≡ SharedImage c.0 c.1)
