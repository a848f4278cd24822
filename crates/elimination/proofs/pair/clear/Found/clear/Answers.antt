use Rattle.elimination.proofs.Steps.{stages}
use Rattle.elimination.proofs.pair.clear.Found.clear.Goals as goal

pub returns : goal.returns
returns c =
    stages c.args.d c.args.self.now c.greedy.new.self c.light.new.self c.sweep.new.self c.sweep-2.new.self
    c.greedy.ensures c.light.ensures c.sweep.ensures c.sweep-2.ensures
