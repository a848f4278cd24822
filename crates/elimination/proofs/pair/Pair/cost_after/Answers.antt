use Rattle.std.proofs.Common.{ap, arith}
use Rattle.elimination.specs.declared.pair.Pair.{Pair}
use Rattle.elimination.proofs.States.{cost_small, weights_is, placed_small}
use Rattle.elimination.proofs.pair.Pair.cost_after.Goals as goal

pub overflow_add-result : goal.overflow_add-result
overflow_add-result c =
    let p = c.args.self.now in
    omega (arith, ap (λ (q : Pair). q.cost) c.weights-before.ensures.same, p.sound.counted, cost_small p)

pub overflow_sub-result : goal.overflow_sub-result
overflow_sub-result c =
    omega (arith, ap (λ (q : Pair). q.cost) c.weights-before.ensures.same, weights_is c.args.self.now c.args.addition c.requires)

pub returns-clause-value : goal.returns-clause-value
returns-clause-value c =
    omega (arith, ap (λ (q : Pair). q.cost) c.weights-before.ensures.same, weights_is c.args.self.now c.args.addition c.requires)

pub returns-clause-small : goal.returns-clause-small
returns-clause-small c =
    let p = c.args.self.now in
    let a = c.args.addition in
    omega (arith, ap (λ (q : Pair). q.cost) c.weights-before.ensures.same, weights_is p a c.requires, placed_small p a c.requires)
