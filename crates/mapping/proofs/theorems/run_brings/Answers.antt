use Rattle.mapping.proofs.RowLaws.{run_brings}
use Rattle.mapping.proofs.theorems.run_brings.Goals as goal

pub returns : goal.returns
returns c = run_brings
