use Rattle.matrices.proofs.Additions.{solved_added}
use Rattle.matrices.proofs.matrix.inverse.Solving.add.Goals as goal

pub invariant_of-self-clause-solved : goal.invariant_of-self-clause-solved
invariant_of-self-clause-solved c =
    let s = c.args.self.now in
    let put = c.put_output.ensures in
    solved_added s.left c.put_output.new.self c.args.gate c.requires.legal put.rows put.lines s.done c.requires.open s.solved
