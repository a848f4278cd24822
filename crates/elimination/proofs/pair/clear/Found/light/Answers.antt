use Rattle.std.proofs.Common.{Some, None, sym, refl, ◌∙◌}
use Rattle.clearing.specs.Clearing.{put, pivot}
use Rattle.clearing.specs.Pairs.{pairs}
use Rattle.elimination.specs.Additions.{placed}
use Rattle.elimination.specs.Choices.{gate_of}
use Rattle.elimination.specs.Finds.{work_of}
use Rattle.elimination.proofs.Pivoting.{lit_already, lit_now}
use Rattle.elimination.proofs.Steps.{done_none, done_as, done_from}
use Rattle.elimination.proofs.pair.clear.Found.light.Goals as goal

pub returns-then-at : goal.returns-then-at
returns-then-at c =
    let f = c.args.self.now in
    done_none 1 (pivot pairs f.pair.lines c.args.d) f f refl (lit_already f.pair.lines c.args.d (work_of f) (sym c.at.ensures ∙ c.if-at.true))

pub returns-in-Some : goal.returns-in-Some
returns-in-Some c =
    let f = c.args.self.now in
    let a = c.in-Some.choice.addition in
    done_as 1 (put pairs (placed a)) (pivot pairs f.pair.lines c.args.d) f c.keep.new.self
    (lit_now f.pair.lines c.args.d (work_of f) (gate_of (Some c.in-Some.choice)) (sym c.at.ensures ∙ c.if-at.false) c.in-Some.ensures.value)
    (done_from 1 (put pairs (placed a)) f.pair c.best_pivot.new.self f.gates c.keep.new.self c.best_pivot.ensures.same c.keep.ensures)

pub returns-in_default : goal.returns-in_default
returns-in_default c =
    let f = c.args.self.now in
    done_none 1 (pivot pairs f.pair.lines c.args.d) f (record { pair = c.best_pivot.new.self; gates = f.gates })
    (λ i. record { pair = c.best_pivot.ensures.same i; gates = f.gates })
    (lit_now f.pair.lines c.args.d (work_of f) (gate_of None) (sym c.at.ensures ∙ c.if-at.false) c.in_default.ensures.value)
