use Rattle.matrices.proofs.Held.{image_keeps}
use Rattle.matrices.proofs.matrix.piece.MatrixPieceCnot.lines.Goals as goal

pub returns-clause-keeps : goal.returns-clause-keeps
returns-clause-keeps c = image_keeps c.args.self.now
