use Rattle.std.proofs.Common.{◌≡◌, ℕ, ◌+◌, ◌%◌, true, refl, ◌∙◌, ap₂, arith}
use Rattle.gates.specs.Cnots.{cnot_legal}
use Rattle.gates.specs.declared.cnot.Cnot.{Cnot}
use Rattle.matrices.proofs.Additions.{legal_when, step_none, step_added, target_bit}
use Rattle.matrices.proofs.matrix.inverse.Solving.set_pivot.Goals as goal

pub returns-then-r-d : goal.returns-then-r-d
returns-then-r-d c =
    let s = c.args.self.now in
    let s' = c.add.new.self in
    let d = s.done in
    let row = c.pivot_row-r.ensures in
    let g : Cnot = record { control = c.pivot_row-r.result; target = d } in
    let legal : cnot_legal s.left.lines g ≡ true = legal_when s.left.lines g s.left.few row.most c.requires c.if-r-d.true in
    let added = c.add.ensures in
    record {
      stepped = step_added s s' g legal added;
      done = added.done;
      one = target_bit s.left s'.left g legal added.left d ∙ ap₂ (λ (x y : ℕ). (x + y) % 2) (row.first d (omega arith) (omega arith)) row.one;
    }

pub returns-else-r-d-clause-stepped : goal.returns-else-r-d-clause-stepped
returns-else-r-d-clause-stepped c = step_none _ _ refl refl
