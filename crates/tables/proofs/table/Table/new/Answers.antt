use Rattle.std.proofs.Common.{◌≡◌, ℕ, ◌^◌, ◌<◌, ◌≤◌, List, length, get_or, take, sym, refl, ap, ◌∙◌, subst, arith, pow_mono, get_or-take}
use Rattle.pieces.proofs.Fits.{narrow, fits}
use Rattle.std.proofs.lemmas.Bool.Decides.{nat_tests}
use Rattle.tables.proofs.table.Table.new.Goals as goal

pub padded-requires-clause-small : goal.padded-requires-clause-small
padded-requires-clause-small c = λ x h.
    let test = c.if-not-is_size.ensures in
    let few : c.args.lines ≤ 8 = grind (arith, nat_tests) in
    let most : 2 ^ c.args.lines ≤ 256 = pow_mono few in
    omega (arith, narrow c.args.lines 0 c.args.images.now c.in_default.ensures x h)

pub invariant_of-result-clause-below : goal.invariant_of-result-clause-below
invariant_of-result-clause-below c = λ x h.
    let images = c.args.images.now in
    let test = c.if-not-is_size.ensures in
    let full : length images ≡ 2 ^ c.args.lines = grind (arith, nat_tests) in
    let within : x < length images = omega (arith, full) in
    let is : get_or c.padded.result x 0 ≡ get_or images x 0 =
    sym (get_or-take (length images) c.padded.result x 0 within) ∙ ap (λ (ys : List ℕ). get_or ys x 0) c.padded.ensures in
    subst (λ (image : ℕ). image < 2 ^ c.args.lines) (sym is) (narrow c.args.lines 0 images c.in_default.ensures x within)

pub returns : goal.returns
returns c =
    let images = c.args.images.now in
    let n = c.args.lines in
    let test = c.if-not-is_size.ensures in
    let some : 1 ≤ n = grind (arith, nat_tests) in
    let few : n ≤ 8 = grind (arith, nat_tests) in
    let full : length images ≡ 2 ^ n = grind (arith, nat_tests) in (
      fits 8 n _ images some few full c.in_default.ensures,
      refl,
      subst (λ (count : ℕ). take count c.padded.result ≡ images) full c.padded.ensures,
    )
