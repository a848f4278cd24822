use Rattle.std.proofs.Common.{ℕ, ◌+◌, ◌-◌, sym, refl, ap, ◌∙◌, subst, ap₂, arith}
use Rattle.std.proofs.lemmas.Bool.{or_left, or_right, eq-eqb}
use Rattle.gates.specs.declared.end.End.TheVariants.{Input, Output}
use Rattle.clearing.specs.Clearing.{Placed, Work, solved, try, greedy_at}
use Rattle.clearing.specs.Pairs.{pairs}
use Rattle.elimination.specs.Additions.{placed}
use Rattle.elimination.specs.Finds.{work_of, Done}
use Rattle.elimination.specs.States.{state_of}
use Rattle.elimination.proofs.Helping.{placed_is}
use Rattle.elimination.proofs.Steps.{greedy_yes, greedy_no, done_none, done_as, done_both, doing_more, doing_all}
use Rattle.elimination.proofs.pair.clear.Found.greedy.Goals as goal
use Rattle.elimination.proofs.pair.clear.Found.greedy.Goals.{then-i-d+then-not-is_solved, else-i-d, else-i-d-via-then-i-d+else-not-is_solved, else-i-d-via-else-i-d}

pub loop-i-preserved : goal.loop-i-preserved
loop-i-preserved c =
    let begun = c.args.self.now in
    let n = begun.pair.lines in
    let f = c.loop-i.self in
    let i = c.loop-i.i in
    let d = c.args.d in
    let step = greedy_at pairs n d in
    let count = ap (λ (m : ℕ). solved pairs m (state_of f.pair) i) c.loop-i.invariant.lines in
    doing_more step 2 n begun f i c.loop-i.invariant c.loop-i-test.true c.if-i-d.self
    (elim c.if-i-d.branch [
      | then-i-d+then-not-is_solved w ↦
          let a = w.new in
          let b = w.new-then-not-is_solved in
          let one = w.keep_if_good in
          let two = w.keep_if_good-then-not-is_solved in
          let gates = ap₂ (λ (g h : Placed). try pairs h (try pairs g (work_of f)))
          (placed_is a.result Output i d a.ensures.end a.ensures.from a.ensures.to) (placed_is b.result Input i d b.ensures.end b.ensures.from b.ensures.to) in
          subst (Done 2 (step i (n - (i + 1))) f) (sym w.self-is)
          (done_as 2 (λ (x : Work pairs). try pairs (placed b.result) (try pairs (placed a.result) x)) (step i (n - (i + 1))) f two.new.self
          (gates ∙ greedy_yes n d i (n - (i + 1)) (work_of f) w.if-i-d.true (sym count ∙ sym w.is_solved.ensures ∙ w.if-not-is_solved.true))
          (done_both 1 1 (try pairs (placed a.result)) (try pairs (placed b.result)) f one.new.self two.new.self one.ensures two.ensures))
      | else-i-d w ↦
          done_none 2 (step i (n - (i + 1))) f c.if-i-d.self w.self-is
          (greedy_no n d i (n - (i + 1)) (work_of f)
          (elim w.else-i-d.branch [
            | else-i-d-via-then-i-d+else-not-is_solved v ↦ or_right _ _ (sym count ∙ sym v.is_solved.ensures ∙ v.if-not-is_solved.false)
            | else-i-d-via-else-i-d v ↦ or_left _ _ (eq-eqb i d v.if-i-d.false)
          ]))
    ])

pub returns : goal.returns
returns c =
    let begun = c.args.self.now in
    doing_all (greedy_at pairs begun.pair.lines c.args.d) 2 begun.pair.lines begun c.loop-i.self c.loop-i.i c.loop-i.invariant (omega arith) refl
