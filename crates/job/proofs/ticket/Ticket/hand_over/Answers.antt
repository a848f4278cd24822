use Rattle.std.proofs.Common.{◌≡◌, sym, refl, ◌∙◌, subst}
use Rattle.words.specs.Maps.{Keeps}
use Rattle.job.proofs.Deliveries.{delivered}
use Rattle.job.proofs.ticket.Ticket.hand_over.Goals as goal

pub returns-clause-after : goal.returns-clause-after
returns-clause-after g c =
    let m = g.P.Piece.meaning c.args.piece.now in
    let s = g.T.Taker.meaning c.args.taker.now in
    let same : m.lines ≡ s.lines = sym c.lines-2.ensures.count ∙ c.in_ok-check_lines-2.ensures.same ∙ c.lines-3.ensures.count in
    let keeps : Keeps m.lines s.map = subst (λ k. Keeps k s.map) (c.lines-3.ensures.count ∙ sym same) c.lines-3.ensures.keeps in
    delivered g.G.Gate.kind g.met.G.Gate.lawful m c.args.book.now (c.if-not-is_identity.ensures.0 refl) s (g.T.Taker.meaning c.feed_circuit.new.taker)
    same keeps c.feed_circuit.ensures c.clear.new.self c.clear.ensures.ends c.clear.ensures.kept
