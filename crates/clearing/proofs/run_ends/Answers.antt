use Rattle.clearing.proofs.Ends.{run_finishes}
use Rattle.clearing.proofs.run_ends.Goals as goal

pub returns : goal.returns
returns c = run_finishes
