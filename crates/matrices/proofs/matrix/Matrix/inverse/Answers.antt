use Rattle.std.proofs.Common.{refl, arith}
use Rattle.matrices.proofs.Additions.{step_none, step_more}
use Rattle.matrices.proofs.Inverses.{solved_none, solved_all}
use Rattle.matrices.proofs.matrix.Matrix.inverse.Goals as goal

pub invariant_of-solving : goal.invariant_of-solving
invariant_of-solving c = record { same = c.units.ensures.lines; solved = solved_none c.args.self.now c.in_default.ensures }

pub loop-solving-init : goal.loop-solving-init
loop-solving-init c = (step_none _ _ refl refl, omega arith)

pub loop-solving-preserved : goal.loop-solving-preserved
loop-solving-preserved c =
    (step_more _ c.loop-solving.solving c.clear_column.new.self c.loop-solving.invariant.0 c.clear_column.ensures.stepped, omega arith)

pub returns : goal.returns
returns c = solved_all _ c.loop-solving.solving c.units.ensures.rows c.loop-solving.invariant.0 (omega arith)
