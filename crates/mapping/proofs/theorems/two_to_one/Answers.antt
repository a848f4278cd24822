use Rattle.std.proofs.Common.{refl}
use Rattle.mapping.specs.Mapping.{mapping, shrink}
use Rattle.mapping.proofs.theorems.two_to_one.Goals as goal

pub returns : goal.returns
unfolding mapping shrink
returns c = refl
