use Rattle.std.proofs.Common.{◌≡◌}
use Rattle.books.specs.Books.{places}
use Rattle.job.proofs.EndingLaws.{delivered, given_up}
use Rattle.job.proofs.conduct.conduct.Goals as goal

pub returns-in-Deliver : goal.returns-in-Deliver
returns-in-Deliver g c =
    let m = g.P.Piece.meaning c.args.piece.now in
    let b = c.args.book.now in
    let room = places b in
    let played = c.in_ok-ticket.ensures in (
      played.0,
      delivered g.G.Gate.kind g.met.G.Gate.lawful (g.C.Playable.rules m.lines room) (g.C.Playable.gives m.lines room) m b c.args.steps.now c.play.new.steps
          (g.P.Piece.meaning c.play.new.piece) c.play.new.book c.in_ok-ticket.ticket played.1 g.T.Taker.meaning c.args.taker.now
          c.deliver.new.book c.deliver.new.taker c.deliver.result c.deliver.ensures.answer c.deliver.ensures.after c.args.ending c.in-Deliver.is,
    )

pub returns-in-GiveUp : goal.returns-in-GiveUp
returns-in-GiveUp g c =
    let m = g.P.Piece.meaning c.args.piece.now in
    let b = c.args.book.now in
    let room = places b in
    let played = c.in_ok-ticket.ensures in
    let p₁ = c.play.new.piece in
    let b₁ = c.play.new.book in
    let p₂ = c.give_up.new.piece in
    let b₂ = c.give_up.new.book in (
      played.0,
      given_up g.G.Gate.kind g.met.G.Gate.lawful (g.C.Playable.rules m.lines room) (g.C.Playable.gives m.lines room) m b c.args.steps.now c.play.new.steps
          (g.P.Piece.meaning p₁) b₁ c.in_ok-ticket.ticket played.1 g.T.Taker.meaning c.args.taker.now
          ((p₂ ≡ p₁) × (b₂ ≡ b₁)) (g.P.Piece.meaning p₂) b₂ c.give_up.result c.give_up.ensures.answer c.give_up.ensures.after c.args.ending c.in-GiveUp.is,
    )
