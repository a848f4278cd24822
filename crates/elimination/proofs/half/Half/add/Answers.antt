use Rattle.std.proofs.Common.{refl}
use Rattle.matrices.specs.Matrices.{add_row}
use Rattle.elimination.proofs.half.Half.add.Goals as goal

pub returns : goal.returns
unfolding add_row
returns c = record { first = refl; second = refl }
