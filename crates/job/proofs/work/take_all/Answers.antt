use Rattle.std.proofs.Common.{refl, ap, ◌∙◌}
use Rattle.books.specs.Books.{ends}
use Rattle.job.proofs.Taking.{strike_less, one_taken, all_taken}
use Rattle.job.proofs.work.take_all.Goals as goal

pub loop-gate-smaller : goal.loop-gate-smaller
loop-gate-smaller g c =
    strike_less c.args.end (ends c.loop-gate.book) (ends c.pop.new.self) c.in-Some.gate c.in-Some.ensures.gate c.pop.ensures.ends

pub loop-gate-preserved : goal.loop-gate-preserved
loop-gate-preserved g c =
    let meaning = g.P.Piece.meaning in
    one_taken g.G.Gate.kind c.args.end (meaning c.args.piece.now) c.args.book.now (meaning c.loop-gate.piece) c.loop-gate.book c.loop-gate.invariant
    g.met.G.Gate.lawful c.in-Some.gate (meaning c.give.new.piece) c.pop.new.self c.in-Some.ensures.gate c.pop.ensures.ends c.pop.ensures.kept
    c.give.ensures.moved

pub returns-clause-ends : goal.returns-clause-ends
returns-clause-ends g c =
    let meaning = g.P.Piece.meaning in
    ap ends (c.in_default.ensures.none refl)
    ∙ all_taken g.G.Gate.kind c.args.end (meaning c.args.piece.now) c.args.book.now (meaning c.loop-gate.piece) c.loop-gate.book c.loop-gate.invariant
    c.in_default.ensures.gate
