use Rattle.std.proofs.Common.{◌≡◌, ℕ, ◌<◌, get_or}
use Rattle.words.specs.Words.{unit}
use Rattle.matrices.proofs.matrix.rows.are_units.Given as goal

-- the rows so far are unit rows
abbrev pub invariant-loop-row : goal.invariant-loop-row
invariant-loop-row l = record { units : (k : ℕ) → k < l.row-index → get_or l.rows k 0 ≡ unit k; next : l.next ≡ unit l.row-index }
