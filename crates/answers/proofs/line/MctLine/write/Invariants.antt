use Rattle.sheet.specs.Render.{members}
use Rattle.answers.specs.Pens.{Writes}
use Rattle.answers.specs.LineLaws.{spaced}
use Rattle.answers.proofs.line.MctLine.write.Given as goal

abbrev pub invariant-loop-line : goal.invariant-loop-line
invariant-loop-line l = Writes l.initial.pen (spaced (members l.line 0 l.self.controls)) l.pen
