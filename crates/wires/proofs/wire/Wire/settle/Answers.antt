use Rattle.gates.specs.declared.end.End.TheVariants.{Output}
use Rattle.books.proofs.PushLaws.{accepted}
use Rattle.wires.specs.Wires.{invert}
use Rattle.wires.proofs.WireLaws.{ran_none, ran_one}
use Rattle.wires.proofs.wire.Wire.settle.Goals as goal

pub returns-then-self-eq0-clause-after : goal.returns-then-self-eq0-clause-after
returns-then-self-eq0-clause-after c = ran_none c.args.self.now c.args.book.now c.if-self-eq0.true c.requires.apart

pub returns-clause-after : goal.returns-clause-after
returns-clause-after c =
    let b = c.args.book.now in
    let b' = c.push.new.self in
    let pushed = accepted Output invert b b' c.push.result c.requires.room c.push.ensures.answer c.push.ensures.after in
    ran_one c.args.self.now b b' c.if-self-eq0.false c.requires.apart pushed.ends
