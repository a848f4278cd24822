use Rattle.std.proofs.Common.{ℕ, ◌+◌, ◌-◌, not, eqb, sym, refl, ◌∙◌, subst, arith}
use Rattle.std.proofs.lemmas.Bool.{and_left, and_right, not_from_true, eq-eqb}
use Rattle.clearing.specs.Clearing.{line, put, rising, sweep_at}
use Rattle.clearing.specs.Pairs.{pairs}
use Rattle.elimination.specs.Additions.{placed}
use Rattle.elimination.specs.Finds.{work_of, Done}
use Rattle.elimination.specs.States.{state_of}
use Rattle.elimination.proofs.Helping.{from_first}
use Rattle.elimination.proofs.Steps.{sweep_yes, sweep_no, done_none, done_as, done_from, doing_more, doing_all}
use Rattle.elimination.proofs.pair.clear.Found.sweep.Goals as goal
use Rattle.elimination.proofs.pair.clear.Found.sweep.Goals.{then-i-d+then-at, else-i-d, else-i-d-via-then-i-d+else-at, else-i-d-via-else-i-d}

pub loop-i-preserved : goal.loop-i-preserved
loop-i-preserved c =
    let begun = c.args.self.now in
    let n = begun.pair.lines in
    let f = c.loop-i.self in
    let i = c.loop-i.i in
    let e = c.args.end in
    let d = c.args.d in
    let step = sweep_at pairs e d in
    doing_more step 1 n begun f i c.loop-i.invariant c.loop-i-test.true c.if-i-d.self
    (elim c.if-i-d.branch [
      | then-i-d+then-at w ↦
          let a = w.new in
          let b = w.best_helper-best in
          let k = w.keep in
          let is = b.ensures.value ∙ from_first f.pair.lines n (state_of f.pair) a.result e d i c.loop-i.invariant.lines a.ensures.end a.ensures.from a.ensures.to in
          subst (Done 1 (step i (n - (i + 1))) f) (sym w.self-is)
          (done_as 1 (put pairs (placed b.result.addition)) (step i (n - (i + 1))) f k.new.self
          (sweep_yes e d i (n - (i + 1)) (work_of f) (placed b.result.addition) w.if-i-d.true (sym w.at.ensures ∙ w.if-at.true) is)
          (done_from 1 (put pairs (placed b.result.addition)) f.pair b.new.self f.gates k.new.self b.ensures.same k.ensures))
      | else-i-d w ↦
          done_none 1 (step i (n - (i + 1))) f c.if-i-d.self w.self-is
          (sweep_no e d i (n - (i + 1)) (work_of f)
          (elim w.else-i-d.branch [
            | else-i-d-via-then-i-d+else-at v ↦ and_right (not (eqb i d)) _ (sym v.at.ensures ∙ v.if-at.false)
            | else-i-d-via-else-i-d v ↦ and_left _ (line pairs e (state_of f.pair) i d) (not_from_true _ (eq-eqb i d v.if-i-d.false))
          ]))
    ])

pub returns : goal.returns
returns c =
    let begun = c.args.self.now in
    let n = begun.pair.lines in
    subst (λ (most : ℕ). Done most (rising (sweep_at pairs c.args.end c.args.d) 0 n) begun c.loop-i.self) (omega arith)
    (doing_all (sweep_at pairs c.args.end c.args.d) 1 n begun c.loop-i.self c.loop-i.i c.loop-i.invariant (omega arith) refl)
