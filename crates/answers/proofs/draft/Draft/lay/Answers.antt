use Rattle.std.proofs.Common.{◌++◌, take, subst, rules, arith, length-append, length-take}
use Rattle.sheet.specs.Render.{lines_text}
use Rattle.answers.specs.Answers.{heading}
use Rattle.answers.specs.Pens.{Writes}
use Rattle.answers.proofs.Headings.{heading_long}
use Rattle.answers.proofs.Pens.{writes_then, puts_of}
use Rattle.answers.proofs.draft.Draft.lay.Goals as goal

pub returns : goal.returns
returns c =
    let d = c.args.self.now in
    let head = lines_text (heading d.heads.items) in
    let text = take d.size d.bodies in
    let whole = writes_then _ _ _ head text c.heading.ensures (subst (λ bs. Writes c.heading.new.self bs c.bytes.new.self) c.text.ensures c.bytes.ensures) in
    puts_of _ _ (head ++ text) _ whole (omega (arith, heading_long d.heads.items, d.few, length-append head text, length-take d.size d.bodies, d.room)) (search rules)
