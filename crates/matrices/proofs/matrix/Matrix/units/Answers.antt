use Rattle.std.proofs.Common.{ℕ, ◌^◌, ◌<◌, take, sym, ◌∙◌, subst, arith}
use lib.Pow.{pow-lt}
use Rattle.std.proofs.lemmas.List.{length-take-le, get_or-take}
use Rattle.words.proofs.Flips.{unit_power}
use Rattle.matrices.proofs.Identities.{units_by_rows}
use Rattle.matrices.proofs.matrix.Matrix.units.Goals as goal

pub invariant_of-result-clause-below : goal.invariant_of-result-clause-below
invariant_of-result-clause-below c r h =
    let few : r < 64 = omega (arith, c.requires.few) in
    subst (λ (w : ℕ). w < 2 ^ c.args.lines) (sym (c.unit_words.ensures r few ∙ unit_power r few)) (pow-lt h)

pub returns-clause-rows : goal.returns-clause-rows
returns-clause-rows c =
    let n = c.args.lines in
    let rows = c.unit_words.result in
    units_by_rows n (take n rows) (length-take-le n rows (omega arith)) (λ r h.
    let few : r < 64 = omega (arith, c.requires.few) in
    get_or-take n rows r 0 h ∙ c.unit_words.ensures r few ∙ unit_power r few)
