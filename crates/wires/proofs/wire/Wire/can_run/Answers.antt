use Rattle.std.proofs.Common.{rules, arith, ◌≢◌, slice_index}
use Rattle.wires.proofs.wire.Wire.can_run.Goals as goal

pub returns-clause-ready : goal.returns-clause-ready
returns-clause-ready c =
    let images = c.args.self.now.images in
    let apart : slice_index images 0 ≢ slice_index images 1 = c.in_default.ensures 0 1 (omega arith) (omega arith) in
    search rules
