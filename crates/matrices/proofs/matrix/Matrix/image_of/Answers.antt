use Rattle.std.proofs.Common.{◌≤◌, length, refl, ap, arith}
use Rattle.matrices.specs.Matrices.{image}
use Rattle.matrices.proofs.Held.{length_rows}
use Rattle.matrices.proofs.Images.{image_more}
use Rattle.matrices.proofs.matrix.Matrix.image_of.Goals as goal

pub loop-r-init : goal.loop-r-init
unfolding image
loop-r-init c = refl

pub loop-r-preserved : goal.loop-r-preserved
loop-r-preserved c =
    let m = c.args.self.now in
    let rows = c.rows-row-items.result.now in
    let few : length rows ≤ 64 = omega (arith, ap length c.rows-row-items.ensures, length_rows m, m.few) in
    image_more rows c.loop-r.r c.args.word c.loop-r.image c.shared.result (omega arith) (omega arith) c.loop-r.invariant c.shared.ensures
