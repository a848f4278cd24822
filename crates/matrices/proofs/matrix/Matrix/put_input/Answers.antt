use Rattle.matrices.proofs.Puts.{input_full, input_rows, input_below, input_moves}
use Rattle.matrices.proofs.matrix.Matrix.put_input.Goals as goal

pub invariant_of-self-clause-full : goal.invariant_of-self-clause-full
invariant_of-self-clause-full c = input_full c.args.self.now c.args.gate c.requires c.add_column.new.rows c.add_column.ensures

pub invariant_of-self-clause-below : goal.invariant_of-self-clause-below
invariant_of-self-clause-below c = input_below c.args.self.now c.args.gate c.requires c.add_column.new.rows c.add_column.ensures

pub returns-clause-rows : goal.returns-clause-rows
returns-clause-rows c = input_rows c.args.self.now c.args.gate c.requires c.add_column.new.rows c.add_column.ensures

pub returns-clause-after : goal.returns-clause-after
returns-clause-after c = input_moves c.args.self.now c.args.gate c.requires c.add_column.new.rows c.add_column.ensures
