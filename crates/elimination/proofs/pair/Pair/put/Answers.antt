use Rattle.std.proofs.Common.{refl}
use Rattle.elimination.proofs.States.{made_output, made_input}
use Rattle.elimination.proofs.pair.Pair.put.Goals as goal

pub invariant_of-self : goal.invariant_of-self
invariant_of-self c =
    let p = c.args.self.now in
    record {
      sound = (made_output p c.args.addition c.requires.within c.args.cost c.requires.cost c.add.new.self c.spread.new.self
          p refl c.in-Output.is c.add.ensures c.spread.ensures).sound;
    }

pub invariant_of-self-in-Input : goal.invariant_of-self-in-Input
invariant_of-self-in-Input c =
    let p = c.args.self.now in
    record {
      sound = (made_input p c.args.addition c.requires.within c.args.cost c.requires.cost c.spread-in-Input.new.self c.add-in-Input.new.self
          p refl c.in-Input.is c.add-in-Input.ensures c.spread-in-Input.ensures).sound;
    }

pub returns-in-Output-clause-state : goal.returns-in-Output-clause-state
returns-in-Output-clause-state c =
    let p = c.args.self.now in
    (made_output p c.args.addition c.requires.within c.args.cost c.requires.cost c.add.new.self c.spread.new.self
    p refl c.in-Output.is c.add.ensures c.spread.ensures).state

pub returns-in-Input-clause-state : goal.returns-in-Input-clause-state
returns-in-Input-clause-state c =
    let p = c.args.self.now in
    (made_input p c.args.addition c.requires.within c.args.cost c.requires.cost c.spread-in-Input.new.self c.add-in-Input.new.self
    p refl c.in-Input.is c.add-in-Input.ensures c.spread-in-Input.ensures).state
