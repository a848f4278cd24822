use Rattle.clearing.proofs.Example.{line_0}
use Rattle.clearing.proofs.line_0.Goals as goal

pub returns : goal.returns
returns c = line_0
