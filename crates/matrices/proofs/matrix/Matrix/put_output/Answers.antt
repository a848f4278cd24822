use Rattle.matrices.proofs.Puts.{output_rows, output_below, output_moves}
use Rattle.matrices.proofs.matrix.Matrix.put_output.Goals as goal

pub invariant_of-self-clause-below : goal.invariant_of-self-clause-below
invariant_of-self-clause-below c = output_below c.args.self.now c.args.gate c.requires c.add_row.new.rows c.add_row.ensures

pub returns-clause-rows : goal.returns-clause-rows
returns-clause-rows c = output_rows c.args.self.now c.args.gate c.requires c.add_row.new.rows c.add_row.ensures

pub returns-clause-after : goal.returns-clause-after
returns-clause-after c = output_moves c.args.self.now c.args.gate c.requires c.add_row.new.rows c.add_row.ensures
