use Rattle.std.proofs.Common.{◌≡◌, length}
use Rattle.elimination.proofs.Columns.{Reads}
use Rattle.elimination.proofs.pair.new.across.Given as goal

abbrev pub invariant-loop-j : goal.invariant-loop-j
invariant-loop-j l = (length l.word-items ≡ length l.rows) × Reads (length l.rows) l.rows l.j l.word-items
