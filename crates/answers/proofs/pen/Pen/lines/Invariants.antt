use Rattle.std.proofs.Common.{map, take}
use Rattle.sheet.specs.Render.{lines_text}
use Rattle.answers.specs.Pens.{Writes}
use Rattle.answers.proofs.pen.Pen.lines.Given as goal

abbrev pub invariant-loop-line : goal.invariant-loop-line
invariant-loop-line g l = Writes l.initial.self (lines_text (map (g.L.Line.text l.n) (take l.line-index l.lines))) l.self
