use Rattle.tables.specs.Tables.{table_meaning}
use Rattle.tables.proofs.Clashes.{Seen}
use Rattle.tables.proofs.table.Table.clash.Given as goal

abbrev pub invariant-loop-b : goal.invariant-loop-b
invariant-loop-b l = Seen (table_meaning l.self).map l.b l.seen
