use Rattle.std.proofs.Common.{arith}
use Rattle.pieces.proofs.Fits.{narrow}
use Rattle.matrices.proofs.Held.{below_by_first}
use Rattle.matrices.proofs.matrix.Matrix.new.Goals as goal

pub invariant_of-result-clause-below : goal.invariant_of-result-clause-below
invariant_of-result-clause-below c =
    let n = c.args.lines in
    let rows = c.args.rows.now in
    below_by_first n c.padded.result rows (rw c.if-rows-lines.false at c.padded.ensures) (λ r h. narrow n 0 rows c.in_default.ensures r (omega arith))
