use Rattle.std.proofs.Common.{take}
use Rattle.answers.specs.Pens.{Writes}
use Rattle.answers.specs.LineLaws.{spaced}
use Rattle.answers.proofs.pen.Pen.numbers.Given as goal

abbrev pub invariant-loop-n : goal.invariant-loop-n
invariant-loop-n l = Writes l.initial.self (spaced (take l.n-index l.others)) l.self
