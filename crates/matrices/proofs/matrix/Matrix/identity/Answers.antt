use Rattle.std.proofs.Common.{arith}
use Rattle.matrices.specs.Matrices.{unit_rows}
use Rattle.pieces.proofs.Fits.{fits}
use Rattle.matrices.proofs.UnitRows.{units_narrow}
use Rattle.matrices.proofs.Identities.{length_units}
use Rattle.matrices.proofs.matrix.Matrix.identity.Goals as goal

pub returns : goal.returns
returns c =
    let n = c.args.lines in (
      fits 64 n n (unit_rows 0 n) (omega arith) (omega arith) (length_units 0 n) (units_narrow n 0 0 n (omega arith)),
      c.units.ensures.lines,
      c.units.ensures.rows,
    )
