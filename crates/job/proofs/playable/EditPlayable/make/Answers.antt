use Rattle.job.proofs.EditSteps.{edit_steps}
use Rattle.job.proofs.playable.EditPlayable.make.Goals as goal

pub returns-clause-plays : goal.returns-clause-plays
returns-clause-plays g c j stands apart = (
  edit_steps g.G.Gate.kind g.met.G.Gate.lawful c.args.ticket.now.lines g.P.Piece.meaning c.args.piece.now c.edit.new.piece c.args.book.now c.edit.new.book
      c.edit.result j stands c.args.self c.edit.ensures.answer c.edit.ensures.after,
  tt,
)
