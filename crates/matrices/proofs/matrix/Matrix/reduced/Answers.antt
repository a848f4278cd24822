use Rattle.std.proofs.Common.{◌≡◌, ℕ, ◌^◌, length, sym, ◌∙◌, subst, arith}
use Rattle.std.proofs.lemmas.List.{get_or_default}
use Rattle.words.proofs.Flips.{unit_power}
use Rattle.matrices.specs.Columns.{Reduced}
use Rattle.matrices.specs.Matrices.{image}
use Rattle.matrices.specs.Meanings.{rows_of}
use Rattle.matrices.proofs.Bases.{reduce_none, reduce_more}
use Rattle.matrices.proofs.Images.{image_sum}
use Rattle.matrices.proofs.matrix.Matrix.reduced.Goals as goal

pub loop-held-init : goal.loop-held-init
loop-held-init c =
    let m = c.args.self.now in
    let f = image (rows_of m) in
    let basis = c.args.basis.now in
    let word = c.unit-word.result in
    let is : word ≡ 2 ^ length basis = c.unit-word.ensures ∙ unit_power (length basis) (omega (arith, c.requires.line, m.few)) in
    subst (λ (v : ℕ). Reduced f basis 0 (record { word = word; image = v })) (sym c.image_of.ensures) (reduce_none f (image_sum (rows_of m)) basis c.requires.kept word is)

pub loop-held-preserved : goal.loop-held-preserved
loop-held-preserved c =
    let rows = rows_of c.args.self.now in
    let basis = c.args.basis.now in
    let i = c.loop-held.held-index in
    let step = c.cleared-found.ensures in
    reduce_more (image rows) (image_sum rows) basis c.requires.kept i c.loop-held.found _ c.loop-held-test.true (get_or_default basis i _ _ c.loop-held-test.true)
    c.loop-held.invariant c.cleared-found.result step.word step.image
