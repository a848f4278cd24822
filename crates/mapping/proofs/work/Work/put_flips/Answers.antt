use Rattle.std.proofs.Common.{◌≡◌, ℕ, ◌+◌, true, sym, subst, arith}
use Rattle.std.proofs.lemmas.Bool.{eqb-true}
use Rattle.words.specs.Words.{bit}
use Rattle.gates.specs.Mcts.{mct_legal}
use Rattle.mapping.specs.Works.{Worked}
use Rattle.mapping.proofs.GateLaws.{gate}
use Rattle.mapping.proofs.TookLaws.{so_far, took_line, took_no_line, took_free, line_room, lent_more}
use Rattle.mapping.proofs.work.Work.put_flips.Goals as goal
use Rattle.mapping.proofs.work.Work.put_flips.Goals.{then-has_bit, else-has_bit}

pub put-requires : goal.put-requires
put-requires c =
    let e = c.args.end in
    let w = c.args.targets in
    let k = c.loop-target.target in
    let one = sym c.if-has_bit.ensures in
    let was = c.args.self.now in
    let now = c.loop-target.self in
    let took = c.loop-target.invariant.took in
    let left = took_free (so_far e c.args.controls w k) was.table.now was.book.now now.table.now now.book.now took in
    record {
      legal = subst (λ (n : ℕ). mct_legal n (gate c.args.controls k) ≡ true) (sym took.same_lines) (c.requires.legal k (eqb-true (bit w k) 1 one));
      room = omega (arith, c.requires.room, line_room e c.args.controls w k c.loop-target-test.true one);
    }

pub loop-target-preserved : goal.loop-target-preserved
loop-target-preserved c =
    let e = c.args.end in
    let w = c.args.targets in
    let k = c.loop-target.target in
    let was = c.args.self.now in
    let now = c.loop-target.self in
    let so = c.loop-target.invariant in
    let next = so_far e c.args.controls w (k + 1) in
    elim c.if-has_bit.branch [
      | then-has_bit v ↦
          subst (Worked was next) (sym v.self-is)
          (record {
            lent = lent_more was now _ so.lent v.put.ensures.lent;
            took = took_line e c.args.controls w k was.table.now was.book.now now.table.now now.book.now so.took _ _ (sym v.if-has_bit.ensures) v.put.ensures.took;
          })
      | else-has_bit v ↦
          subst (Worked was next) (sym v.self-is)
          (record {
            lent = so.lent;
            took = took_no_line e c.args.controls w k was.table.now was.book.now now.table.now now.book.now so.took (sym v.if-has_bit.ensures);
          })
    ]

pub returns : goal.returns
returns c =
    let all : c.loop-target.target ≡ 8 = omega (arith, c.loop-target-test.false, c.loop-target.auto.target-end) in
    subst (λ (k : ℕ). Worked c.args.self.now (so_far c.args.end c.args.controls c.args.targets k) c.loop-target.self) all c.loop-target.invariant
