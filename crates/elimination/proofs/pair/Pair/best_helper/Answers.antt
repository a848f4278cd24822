use Rattle.std.proofs.Common.{◌+◌, ◌<◌, not, eqb, sym, ap, ◌∙◌, subst}
use Rattle.std.proofs.lemmas.Bool.{and_left, and_right, not_from_true, eq-eqb}
use Rattle.clearing.specs.Clearing.{line}
use Rattle.clearing.specs.Pairs.{pairs}
use Rattle.elimination.specs.declared.addition.Addition.{Addition}
use Rattle.elimination.specs.declared.pair.Pair.{Pair}
use Rattle.elimination.specs.Additions.{placed, Within}
use Rattle.elimination.specs.States.{state_of}
use Rattle.elimination.proofs.Helping.{cost_by, from_line, placed_is, within_is, helping_yes, helping_no, helping_all}
use Rattle.elimination.proofs.pair.Pair.best_helper.Goals as goal
use Rattle.elimination.proofs.pair.Pair.best_helper.Goals.{then-j-d+then-at, else-j-d, else-j-d-via-then-j-d+else-at, else-j-d-via-else-j-d}

pub loop-j-preserved : goal.loop-j-preserved
loop-j-preserved c =
    let p = c.choice-best.new.self in
    let l = c.loop-j in
    let e = c.args.first.end in
    let d = c.args.first.from in
    let i = c.args.first.to in
    let same = l.invariant.0 in
    let lit = ap (λ (q : Pair). line pairs e (state_of q) l.j d) same in
    let to : i < p.lines = subst (λ (q : Pair). i < q.lines) (sym c.choice-best.ensures.same) c.requires.to in
    elim c.if-j-d.branch [
      | then-j-d+then-at w ↦
          let a = w.new.result in
          let new = w.choice.result in
          let is = w.choice.ensures.addition in (
            w.self-is ∙ w.choice.ensures.same ∙ same,
            helping_yes p.lines (state_of p) e d i l.best l.j l.invariant.1 c.loop-j-test.true new c.if-j-d.best
                w.if-j-d.true (sym lit ∙ sym w.at.ensures ∙ w.if-at.true)
                (subst (Within p.lines) (sym is) (within_is p.lines a l.j i w.new.ensures.from w.new.ensures.to c.loop-j-test.true to))
                (ap placed is ∙ placed_is a e l.j i w.new.ensures.end w.new.ensures.from w.new.ensures.to)
                (w.choice.ensures.cost ∙ ap (λ (q : Pair). cost_by (state_of q) (placed a)) same ∙ ap (λ (b : Addition). cost_by (state_of p) (placed b)) (sym is))
                (w.best-is ∙ w.better-best.ensures),
          )
      | else-j-d w ↦ (
        w.self-is ∙ same,
        helping_no p.lines (state_of p) e d i l.best l.j l.invariant.1 c.loop-j-test.true c.if-j-d.best
            (elim w.else-j-d.branch [
              | else-j-d-via-then-j-d+else-at v ↦ and_right (not (eqb l.j d)) _ (sym lit ∙ sym v.at.ensures ∙ v.if-at.false)
              | else-j-d-via-else-j-d v ↦ and_left _ (line pairs e (state_of p) l.j d) (not_from_true _ (eq-eqb l.j d v.if-j-d.false))
            ])
            w.best-is,
      )
    ]

pub returns-clause-value : goal.returns-clause-value
returns-clause-value c =
    let p = c.choice-best.new.self in
    let l = c.loop-j in
    let first = c.args.first in
    helping_all p.lines (state_of p) first.end first.from first.to l.best l.j l.invariant.1 c.loop-j-test.false
    ∙ ap (λ (q : Pair). from_line q.lines (state_of q) first.end first.from first.to (placed first) (first.to + 1)) c.choice-best.ensures.same
