use Rattle.std.proofs.Common.{◌<◌, ◌≤◌, length, get_or, ap, arith}
use Rattle.books.specs.Books.{places}
use Rattle.job.proofs.Playing.{playing_none, plays_next, plays_all}
use Rattle.job.proofs.play.play.Goals as goal

pub loop-step-init : goal.loop-step-init
loop-step-init g c =
    let m = g.P.Piece.meaning c.args.piece.now in
    let b = c.open.new.book in
    let room = places b in
    playing_none g.G.Gate.kind (g.C.Playable.rules m.lines room) (g.C.Playable.gives m.lines room) m b c.args.steps.now c.in_ok-ticket.ensures.1.emptied

pub loop-step-preserved : goal.loop-step-preserved
loop-step-preserved g c =
    let meaning = g.P.Piece.meaning in
    let opening = c.in_ok-ticket.ensures in
    let at = c.loop-step.step-index in
    let ss' = c.loop-step.steps in
    let s = get_or ss' at c.step-item.result in
    let h : at < length ss' = omega arith in
    plays_next g.G.Gate.kind g.C.Playable.rules g.C.Playable.gives (meaning c.args.piece.now) c.open.new.book c.args.steps.now
    g.met.G.Gate.lawful c.in_ok-ticket.ticket c.args.book.now opening.1 at ss' (meaning c.loop-step.piece) c.loop-step.book c.loop-step.invariant
    g.met.C.Playable.keeps_whole opening.0 (meaning c.make-answer.new.piece) c.make-answer.new.book s c.make-answer.result h
    (ap (get_or ss' at) c.step-item.is) c.make-answer.ensures.plays

pub returns : goal.returns
returns g c =
    let meaning = g.P.Piece.meaning in
    let opening = c.in_ok-ticket.ensures in
    let h : length c.loop-step.steps ≤ c.loop-step.step-index = omega arith in (
      opening.0,
      plays_all g.G.Gate.kind g.C.Playable.rules g.C.Playable.gives (meaning c.args.piece.now) c.open.new.book c.args.steps.now
          g.met.G.Gate.lawful c.in_ok-ticket.ticket c.args.book.now opening.1 c.loop-step.step-index c.loop-step.steps (meaning c.loop-step.piece)
          c.loop-step.book c.loop-step.invariant h,
    )
