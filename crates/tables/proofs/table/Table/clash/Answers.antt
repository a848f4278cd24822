use Rattle.tables.specs.Tables.{table_meaning}
use Rattle.tables.proofs.Clashes.{seen_none}
use Rattle.tables.proofs.table.Table.clash.Goals as goal

pub loop-b-init : goal.loop-b-init
loop-b-init c = seen_none (table_meaning c.args.self.now).map
