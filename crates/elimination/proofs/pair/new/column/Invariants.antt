use Rattle.elimination.proofs.Columns.{Read}
use Rattle.elimination.proofs.pair.new.column.Given as goal

abbrev pub invariant-loop-i : goal.invariant-loop-i
invariant-loop-i l = Read l.rows l.j l.i l.column
