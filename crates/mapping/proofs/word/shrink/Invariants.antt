use Rattle.std.proofs.Common.{◌≡◌}
use Rattle.mapping.specs.Mapping.{shrink}
use Rattle.mapping.proofs.word.shrink.Given as goal

abbrev pub invariant-loop-c : goal.invariant-loop-c
invariant-loop-c l = shrink l.c l.x ≡ shrink l.y l.x

abbrev pub decreases-loop-c : goal.decreases-loop-c
decreases-loop-c l = l.c
