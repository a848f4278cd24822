use Rattle.std.proofs.Common.{Err, ap, ◌∙◌}
use Rattle.std.proofs.lemmas.Result.{err_from_is_err_and}
use Rattle.matrices.specs.Matrices.{image}
use Rattle.matrices.specs.Meanings.{rows_of}
use Rattle.elimination.specs.Costs.{map_cost}
use Rattle.elimination.proofs.CostLaws.{clash_told, value_told, cost_told}
use Rattle.elimination.proofs.telling.cost.Goals as goal

pub returns-in_err-pair : goal.returns-in_err-pair
returns-in_err-pair c =
    let e = err_from_is_err_and c.from_residual.result c.from_residual.ensures.1 in
    let m = c.args.matrix.now in
    clash_told m (map_cost m.lines (image (rows_of m))) c.in_err-pair.field-0.0 c.from_residual.result c.in_err-pair.ensures (e.1 ∙ ap Err e.2)

pub returns : goal.returns
returns c =
    let m = c.args.matrix.now in
    let p = c.in_ok-pair.pair in
    let is = c.in_ok-pair.ensures in
    value_told m p (map_cost m.lines (image (rows_of m))) c.cost.result is (c.cost.ensures.value ∙ cost_told m p is)
