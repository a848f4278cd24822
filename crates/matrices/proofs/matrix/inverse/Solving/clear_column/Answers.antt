use Rattle.std.proofs.Common.{◌≡◌, ℕ, ◌+◌, true, get_or, sym, refl, ◌∙◌, subst, arith}
use Rattle.std.proofs.lemmas.Bool.{false≢true}
use Rattle.words.specs.Words.{bit}
use Rattle.gates.specs.Cnots.{cnot_legal}
use Rattle.gates.specs.declared.cnot.Cnot.{Cnot}
use Rattle.matrices.specs.Meanings.{rows_of}
use Rattle.matrices.specs.Solving.{Stepped}
use Rattle.matrices.specs.declared.matrix.inverse.Solving.{Solving}
use Rattle.matrices.proofs.Additions.{legal_when, step_none, step_more, step_added}
use Rattle.matrices.proofs.Clearings.{Cleared, cleared_added, cleared_skip, solved_more}
use Rattle.matrices.proofs.matrix.inverse.Solving.clear_column.Goals as goal
use Rattle.matrices.proofs.matrix.inverse.Solving.clear_column.Goals.{then-has_other, else-has_other}

pub loop-i-init : goal.loop-i-init
loop-i-init c =
    let set = c.set_pivot.ensures in
    record { stepped = step_none _ _ refl refl; done = set.done; cleared = record { one = set.one; zeros = λ k l. absurd (omega arith) } }

pub loop-i-preserved : goal.loop-i-preserved
loop-i-preserved c =
    let start = c.set_pivot.new.self in
    let s = c.loop-i.self in
    let d = c.args.self.now.done in
    let i = c.loop-i.i in
    let inv = c.loop-i.invariant in
    let entry = bit (get_or (rows_of s.left) i 0) d in
    let P : Solving → Type 0 = λ s'. record { stepped : Stepped start s'; done : s'.done ≡ d; cleared : Cleared s'.left d (i + 1) } in
    elim c.if-has_other.branch [
      | then-has_other w ↦
          let s' = w.add.new.self in
          let g : Cnot = record { control = d; target = i } in
          let added = w.add.ensures in
          let other = w.if-has_other.ensures.0 refl in
          let before : s.left.lines ≡ c.args.self.now.left.lines = inv.stepped.lines ∙ c.set_pivot.ensures.stepped.lines in
          let legal : cnot_legal s.left.lines g ≡ true = legal_when s.left.lines g s.left.few (omega (arith, c.requires)) (omega (arith, inv.stepped.lines)) (λ e. other.0 (sym e)) in
          subst P (sym w.self-is) (record {
            stepped = step_more start s s' inv.stepped (step_added s s' g legal added);
            done = added.done ∙ inv.done;
            cleared = cleared_added s.left s'.left g legal added.left inv.cleared other.1;
          })
      | else-has_other w ↦
          let none : (i ≡ d → ⊥) → entry ≡ 0 = λ ne.
          let not_one : entry ≡ 1 → ⊥ = λ one. false≢true (w.if-has_other.ensures.1 (ne, one)) in
          omega arith in
          subst P (sym w.self-is) (record { stepped = inv.stepped; done = inv.done; cleared = cleared_skip s.left d i inv.cleared none })
    ]

pub invariant_of-self-clause-solved : goal.invariant_of-self-clause-solved
invariant_of-self-clause-solved c =
    let s = c.loop-i.self in
    let inv = c.loop-i.invariant in
    let end : c.loop-i.i ≡ s.left.lines = omega (arith, inv.stepped.lines) in
    solved_more s.left s.done s.solved (subst (λ (d : ℕ). Cleared s.left d s.left.lines) (sym inv.done) (subst (Cleared s.left c.args.self.now.done) end inv.cleared))

pub returns-clause-stepped : goal.returns-clause-stepped
returns-clause-stepped c =
    step_more c.args.self.now c.set_pivot.new.self _ c.set_pivot.ensures.stepped
    (step_more c.set_pivot.new.self c.loop-i.self _ c.loop-i.invariant.stepped (step_none _ _ refl refl))
