use Rattle.std.proofs.Common.{[], ◌∷◌, ◌++◌, arith}
use Rattle.sheet.proofs.Cutting.{pass_more, pass_within, pass_end}
use Rattle.sheet.proofs.text.lines_end.Goals as goal

pub loop-line-preserved : goal.loop-line-preserved
loop-line-preserved c =
    let more = pass_more c.args.text.now c.loop-line.rest.now c.loop-line.invariant.0 _ c.loop-line.invariant.1 c.loop-line.invariant.2 c.in-Some.field-0-0.now c.in-Some.after.now c.in-Some.ensures.0 in
    (c.loop-line.invariant.0 ++ c.in-Some.field-0-0.now ∷ [], more.0, more.1)

pub overflow_sub-result : goal.overflow_sub-result
overflow_sub-result c = pass_within c.args.text.now c.loop-line.rest.now c.loop-line.invariant.0 _ c.loop-line.invariant.1 c.loop-line.invariant.2

pub returns : goal.returns
returns c = pass_end c.args.text.now c.loop-line.rest.now c.loop-line.invariant.0 _ c.loop-line.invariant.1 c.loop-line.invariant.2 c.args.count (omega arith)
