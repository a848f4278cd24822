use Rattle.clearing.proofs.Ends.{clear_solves}
use Rattle.clearing.proofs.clear_solves.Goals as goal

pub returns : goal.returns
returns c = clear_solves
