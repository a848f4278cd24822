use Rattle.std.proofs.Common.{◌≡◌, ◌∙◌, sym}
use Rattle.job.proofs.Edits.{take_answer, take_done}
use Rattle.job.proofs.ticket.Ticket.take_back.Goals as goal

pub returns : goal.returns
returns g c =
    let K = g.G.Gate.kind in
    let n = c.args.self.now.lines in
    let m = g.P.Piece.meaning c.args.piece.now in
    let b = c.args.book.now in
    let b' = c.pop.new.self in
    let p' = c.give.new.piece in
    let before = c.in_ok-check.ensures in
    let gate = sym c.pop.ensures.gate ∙ c.in_ok-gate.ensures.ok_part in
    record {
      answer = take_answer K n m b c.args.end c.in_ok-gate.gate before.same before.legal gate c.give.result c.give.ensures.answer;
      after = take_done K n m b c.args.end c.in_ok-gate.gate before.same before.legal gate c.give.result c.give.ensures.answer
          (g.P.Piece.meaning p') b' ((p' ≡ c.args.piece.now) × (b' ≡ b)) c.give.ensures.moved c.pop.ensures.ends c.pop.ensures.kept;
    }
