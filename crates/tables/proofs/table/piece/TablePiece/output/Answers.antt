use Rattle.std.proofs.Common.{rules}
use Rattle.tables.proofs.table.piece.TablePiece.output.Goals as goal

pub returns-clause-after : goal.returns-clause-after
returns-clause-after g c =
    record { same_lines = c.by.ensures.lines; map = λ x h. let p = c.by.ensures.images x h in search rules }
