use Rattle.std.proofs.Common.{◌≤◌, sym, ap, ◌∙◌, arith}
use Rattle.books.specs.Books.{ends, free}
use Rattle.books.specs.Ends.{put}
use Rattle.books.proofs.KeptLaws.{kept_more}
use Rattle.books.proofs.PushLaws.{accepted, pushed_free}
use Rattle.elimination.proofs.Writing.{put_more}
use Rattle.elimination.proofs.pair.run.write_down.Goals as goal

pub loop-placed-preserved : goal.loop-placed-preserved
loop-placed-preserved c =
    let i = c.loop-placed.placed-index in
    let b = c.loop-placed.book in
    let b' = c.push.new.self in
    let one : 1 ≤ free b = omega (arith, c.loop-placed.invariant.1) in
    let p = accepted _ _ b b' c.push.result one c.push.ensures.answer c.push.ensures.after in (
      p.ends ∙ ap (put _ _) c.loop-placed.invariant.0 ∙ sym (put_more c.args.gates.now i _ (ends c.args.book.now) c.loop-placed-test.true),
      pushed_free _ _ b b' p c.push.ensures.kept ∙ omega (arith, c.loop-placed.invariant.1),
      kept_more c.loop-placed.invariant.2 c.push.ensures.kept,
    )
