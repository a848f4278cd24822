use Rattle.std.proofs.Common.{◌≡◌, ℕ, ◌^◌, ◌<◌, ◌≤◌, length, get_or, sym, ap, ◌∙◌, arith, rules}
use Rattle.std.proofs.lemmas.List.{take_all}
use Rattle.clearing.specs.Pairs.{differing}
use Rattle.elimination.specs.Halves.{off}
use Rattle.elimination.proofs.Sums.{total, differing_total}
use Rattle.elimination.proofs.Columns.{counted_more, counted_none}
use Rattle.elimination.proofs.pair.new.count_off.Goals as goal

pub loop-i-init : goal.loop-i-init
loop-i-init c = (counted_none c.args.rows.now, omega arith)

pub overflow_add-count : goal.overflow_add-count
overflow_add-count c =
    let fits : get_or c.args.rows.now c.loop-i.i 0 < 2 ^ 64 = search rules in
    omega (arith, (counted_more c.args.rows.now c.loop-i.i c.loop-i.count (omega arith) fits c.loop-i.invariant).1)

pub loop-i-preserved : goal.loop-i-preserved
loop-i-preserved c =
    let fits : get_or c.args.rows.now c.loop-i.i 0 < 2 ^ 64 = search rules in
    counted_more c.args.rows.now c.loop-i.i c.loop-i.count (omega arith) fits c.loop-i.invariant

pub returns-clause-value : goal.returns-clause-value
returns-clause-value c =
    let xs = c.args.rows.now in
    let e : c.loop-i.i ≡ length xs = omega arith in
    let le : length xs ≤ length xs = omega arith in
    c.loop-i.invariant.0 ∙ ap (λ (k : ℕ). total k (off xs)) e ∙ sym (differing_total (length xs) xs le) ∙ ap (differing 0) (take_all (length xs) xs le)
