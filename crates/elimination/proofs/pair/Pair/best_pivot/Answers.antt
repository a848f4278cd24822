use Rattle.std.proofs.Common.{◌∙◌}
use Rattle.elimination.specs.States.{state_of}
use Rattle.elimination.proofs.Pivoting.{pivoting_turn, pivoting_all}
use Rattle.elimination.proofs.pair.Pair.best_pivot.Goals as goal

pub loop-i-preserved : goal.loop-i-preserved
loop-i-preserved c =
    let l = c.loop-i in
    let one = c.consider-best in
    let two = c.consider-best-in-loop-i in
    let a = l.invariant.0 in
    let b = one.ensures.same ∙ a in (
      two.ensures.same ∙ b,
      pivoting_turn c.args.self.now l.self one.new.self c.args.d l.best l.i one.result two.result a b l.invariant.1 c.loop-i-test.true
          one.ensures.value two.ensures.value two.ensures.fits,
    )

pub returns : goal.returns
returns c =
    let p = c.args.self.now in
    let l = c.loop-i in
    record {
      same = l.invariant.0;
      fits = l.invariant.1.fits;
      value = pivoting_all p.lines (state_of p) c.args.d l.best l.i l.invariant.1 c.loop-i-test.false;
    }
