use Rattle.std.proofs.Common.{Some, sym, ◌∙◌}
use Rattle.elimination.specs.States.{state_of}
use Rattle.elimination.proofs.Lining.{lining_yes, lining_no, lining_all}
use Rattle.elimination.proofs.pair.Pair.best_line.Goals as goal
use Rattle.elimination.proofs.pair.Pair.best_line.Goals.{then-not-is_solved, else-not-is_solved}

pub loop-d-preserved : goal.loop-d-preserved
loop-d-preserved c =
    let p = c.args.self.now in
    let l = c.loop-d in
    elim c.if-not-is_solved.branch [
      | then-not-is_solved w ↦
          lining_yes p.lines (state_of p) l.best l.d l.invariant c.loop-d-test.true c.if-not-is_solved.best (Some w.try_line.result)
          (sym c.is_solved.ensures ∙ w.if-not-is_solved.true) w.try_line.ensures.value w.try_line.ensures.tried w.best-is
      | else-not-is_solved w ↦
          lining_no p.lines (state_of p) l.best l.d l.invariant c.loop-d-test.true c.if-not-is_solved.best
          (sym c.is_solved.ensures ∙ w.if-not-is_solved.false) w.best-is
    ]

pub returns : goal.returns
returns c =
    let p = c.args.self.now in
    let l = c.loop-d in
    record {
      remembers = l.invariant.remembers;
      value = lining_all p.lines (state_of p) l.best l.d l.invariant c.loop-d-test.false;
    }
