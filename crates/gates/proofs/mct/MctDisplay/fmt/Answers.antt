use Rattle.std.proofs.Common.{◌≡◌, subst, refl, arith}
use Rattle.std.proofs.Output.{has_written_append}
use Rattle.std.specs.Fmt.{HasWritten}
use Rattle.gates.specs.Texts.{controls_text}
use Rattle.gates.proofs.mct.MctDisplay.fmt.Goals as goal

-- the bracket, the controls among all eight lines, and the rest
pub returns-clause-writes : goal.returns-clause-writes
returns-clause-writes g c p ok =
    let all : c.loop-line.line ≡ 8 = omega arith in
    let start = c.in_ok-write.ensures.writes p refl in
    let some = c.loop-line.invariant start.plain in
    let controls = subst (λ n. HasWritten g.W.Write.write_str_gives c.write.new.self (controls_text c.args.self.now n) c.loop-line.f) all some in
    has_written_append _ _ _ _ _ _ start (has_written_append _ _ _ _ _ _ controls (c.write-2.ensures.writes controls.plain ok))
