use Rattle.std.proofs.Common.{rules}
use Rattle.matrices.proofs.matrix.make.unit_words.Goals as goal

pub returns : goal.returns
returns c r h = let is = c.from_fn.ensures.items.at r 0 h in search rules
