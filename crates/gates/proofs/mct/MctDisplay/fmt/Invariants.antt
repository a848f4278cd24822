use Rattle.std.specs.Fmt.{HasWritten, IsPlainFormatter}
use Rattle.gates.specs.Texts.{controls_text}
use Rattle.gates.proofs.mct.MctDisplay.fmt.Given as goal

abbrev pub invariant-loop-line : goal.invariant-loop-line
invariant-loop-line g l =
    IsPlainFormatter l.initial.f → HasWritten g.W.Write.write_str_gives l.initial.f (controls_text l.self l.line) l.f
