use Rattle.std.proofs.Common.{arith, rules}
use Rattle.elimination.proofs.Additions.{weighed}
use Rattle.elimination.proofs.half.Half.weight.Goals as goal

pub overflow_add-result : goal.overflow_add-result
overflow_add-result c = omega (arith, (weighed c.args.addition c.args.self.now (search rules) (search rules)).1)

pub returns : goal.returns
returns c = let w = weighed c.args.addition c.args.self.now (search rules) (search rules) in record { value = w.0; small = w.1 }
