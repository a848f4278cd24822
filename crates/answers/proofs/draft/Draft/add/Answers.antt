use Rattle.std.proofs.Common.{◌≡◌, length, map, sym, ◌∙◌, arith, rules}
use lib.ListN.{length-map}
use Rattle.answers.proofs.Drafting.{lines_laid, lines_more, drafts_more}
use Rattle.answers.proofs.Pens.{same_room}
use Rattle.answers.proofs.draft.Draft.add.Goals as goal

pub overflow_sub-end : goal.overflow_sub-end
overflow_sub-end g c =
    (lines_more (g.L.Line.text c.args.n) (λ x. g.met.L.Line.short c.args.n x (omega arith)) c.args.body.now (search rules) _ _ c.lines.ensures (omega (arith, c.args.self.now.short))).0

pub invariant_of-self-clause-room : goal.invariant_of-self-clause-room
invariant_of-self-clause-room g c = same_room _ _ _ c.lines.ensures ∙ c.args.self.now.room

pub invariant_of-self-clause-short : goal.invariant_of-self-clause-short
invariant_of-self-clause-short g c =
    omega (
      arith,
      c.args.self.now.short,
      c.push.ensures.len,
      lines_more (g.L.Line.text c.args.n) (λ x. g.met.L.Line.short c.args.n x (omega arith)) c.args.body.now (search rules) _ _ c.lines.ensures (omega (arith, c.args.self.now.short)),
    )

pub returns-clause-after : goal.returns-clause-after
returns-clause-after g c a is xs d =
    let text = g.L.Line.text c.args.n in
    let count : c.in_ok-count.count ≡ length c.args.body.now = search rules in
    drafts_more c.args.self.now _ xs d a c.args.kind c.args.n (map text c.args.body.now) is c.in_ok-count.count (count ∙ sym (length-map c.args.body.now text))
    (lines_laid text (λ x. g.met.L.Line.short c.args.n x (omega arith)) c.args.body.now (search rules) _ _ c.lines.ensures (omega (arith, c.args.self.now.short))) c.push.ensures.items
