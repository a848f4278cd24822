use Rattle.std.proofs.Common.{arith}
use Rattle.elimination.proofs.Columns.{read_more}
use Rattle.elimination.proofs.pair.new.column.Goals as goal

pub loop-i-preserved : goal.loop-i-preserved
loop-i-preserved c = read_more c.args.rows.now c.args.j c.loop-i.i c.loop-i.column (omega arith) c.loop-i.invariant
