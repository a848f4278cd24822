use Rattle.job.proofs.CallSteps.{call_steps}
use Rattle.job.proofs.playable.CallPlayable.make.Goals as goal

pub returns-clause-plays : goal.returns-clause-plays
returns-clause-plays g c j stands apart =
    call_steps g.G.Gate.kind g.met.G.Gate.lawful c.args.ticket.now.lines g.P.Piece.meaning c.args.piece.now c.call.new.piece c.args.book.now c.call.new.book
    c.call.result j stands g.P.Synthesis.plan apart c.args.self c.call.ensures.answer c.call.ensures.after
