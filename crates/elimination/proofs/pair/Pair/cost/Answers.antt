use Rattle.std.proofs.Common.{arith}
use Rattle.elimination.proofs.States.{cost_small}
use Rattle.elimination.proofs.pair.Pair.cost.Goals as goal

pub returns-clause-small : goal.returns-clause-small
returns-clause-small c = omega (arith, c.args.self.now.sound.counted, cost_small c.args.self.now)
