use Rattle.std.proofs.Common.{◌≡◌, ℕ, ◌<◌, ◌≤◌, cond, List, ◌++◌, length, get_or, set, take, drop, refl, ap, ◌∙◌, ap₂, arith}
use lib.Bits.{bit_xor}
use Rattle.std.proofs.lemmas.List.Edits.{map_over_more}
use Rattle.std.proofs.lemmas.List.{append-nil, get_or_default, take_all, drop_all}
use Rattle.words.specs.Words.{has}
use Rattle.words.proofs.Flips.{unit_power}
use Rattle.matrices.specs.Matrices.{add_column}
use Rattle.matrices.proofs.Turns.{turned}
use Rattle.matrices.proofs.matrix.rows.add_column.Goals as goal

pub loop-row-init : goal.loop-row-init
unfolding add_column
loop-row-init c = refl

pub loop-row-preserved : goal.loop-row-preserved
unfolding add_column
loop-row-preserved c =
    let g = c.args.gate in
    let first = take c.args.lines c.args.rows.now in
    let rows = c.loop-row.row-items in
    let r = c.loop-row.row-index in
    let row = get_or rows r 0 in
    let within : r < length rows = omega arith in
    let is : c.column_added.result ≡ turned g.target g.control row =
    c.column_added.ensures ∙ ap (λ (flip : ℕ). cond (has row g.target) (bit_xor row flip) row) (unit_power g.control c.requires.control) in
    ap (set rows r) is ∙ map_over_more (turned g.target g.control) first rows r row (omega arith) c.loop-row.invariant (get_or_default rows r 0 _ within)

pub returns : goal.returns
returns c =
    let added = add_column c.args.gate in
    let first = take c.args.lines c.args.rows.now in
    let end : length first ≤ c.loop-row.row-index = c.loop-row-test.false in
    let whole : c.loop-row.row-items ≡ added first =
    c.loop-row.invariant ∙ ap₂ (λ (xs ys : List ℕ). added xs ++ ys) (take_all c.loop-row.row-index first end) (drop_all c.loop-row.row-index first end)
    ∙ append-nil (added first) in
    ap (λ (xs : List ℕ). xs ++ drop c.args.lines c.args.rows.now) whole
