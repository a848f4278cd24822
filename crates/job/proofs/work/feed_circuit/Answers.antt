use Rattle.std.proofs.Common.{sym, subst, arith}
use Rattle.books.specs.Books.{ends}
use Rattle.takers.specs.Meanings.{FedAll}
use Rattle.job.proofs.Deliveries.{fed_legal, fed_next, fed_past}
use Rattle.job.proofs.work.feed_circuit.Goals as goal
use Rattle.job.proofs.work.feed_circuit.Goals.{in-Some, in_default}

pub feed_one-requires-clause-legal : goal.feed_one-requires-clause-legal
feed_one-requires-clause-legal g c =
    let meaning = g.T.Taker.meaning in
    fed_legal g.G.Gate.kind (meaning c.args.taker.now) (ends c.args.book.now) c.loop-at.at (meaning c.loop-at.taker) c.loop-at.invariant
    c.in-Some.gate c.in-Some.ensures c.requires.legal

pub loop-at-preserved : goal.loop-at-preserved
loop-at-preserved g c =
    let K = g.G.Gate.kind in
    let meaning = g.T.Taker.meaning in
    let m = meaning c.args.taker.now in
    let es = ends c.args.book.now in
    elim c.match-next_gate.branch [
      | in-Some w ↦
          subst (λ t. FedAll K m _ (meaning t)) (sym w.taker-is)
          (fed_next K m es c.loop-at.at (meaning c.loop-at.taker) c.loop-at.invariant w.in-Some.gate w.in-Some.ensures
          (meaning w.feed_one.new.taker) w.feed_one.ensures)
      | in_default w ↦ absurd (fed_past es c.loop-at.at (omega arith) w.in_default.ensures)
    ]
