use Rattle.mapping.proofs.ImageLaws.{Passed}
use Rattle.mapping.proofs.put.output.Given as goal

abbrev pub invariant-loop-image : goal.invariant-loop-image
invariant-loop-image l = Passed l.gate l.initial.image-items l.image-items l.image-index
