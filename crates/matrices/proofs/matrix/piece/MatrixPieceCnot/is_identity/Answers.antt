use Rattle.std.proofs.Common.{sym, ◌∙◌, arith}
use Rattle.words.proofs.Flips.{unit_power}
use Rattle.matrices.specs.Meanings.{rows_of}
use Rattle.matrices.proofs.Held.{length_rows, row_below}
use Rattle.matrices.proofs.Identities.{identity_by_rows, rows_by_identity}
use Rattle.matrices.proofs.matrix.piece.MatrixPieceCnot.is_identity.Goals as goal

pub returns : goal.returns
returns c =
    let m = c.args.self.now in
    let size = length_rows m in
    let units = rw c.rows.ensures at c.are_units.ensures in (
      λ yes. identity_by_rows m.lines (rows_of m) size (λ r h. units.0 yes r (omega arith) ∙ unit_power r (omega (arith, m.few))),
      λ all. units.1 (λ r h. rows_by_identity m.lines (rows_of m) size (row_below m) all r (omega arith) ∙ sym (unit_power r (omega (arith, m.few)))),
    )
