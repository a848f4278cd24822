use Rattle.sheet.specs.Render.{row_text}
use Rattle.answers.specs.Pens.{Writes}
use Rattle.answers.proofs.line.U64Line.write.Given as goal

abbrev pub invariant-loop-line : goal.invariant-loop-line
invariant-loop-line l = Writes l.initial.pen (row_text l.line l.self) l.pen
