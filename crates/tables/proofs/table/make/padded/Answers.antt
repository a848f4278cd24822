use Rattle.std.proofs.Common.{◌≡◌, ◌<◌, length, get_or, take, ◌∙◌, arith, length-set, length-take-le, get_or-take}
use Rattle.std.proofs.lemmas.List.{ext_get_or}
use Rattle.std.proofs.lemmas.List.Edits.{fill_by_more}
use Rattle.tables.proofs.table.make.padded.Goals as goal

pub loop-word-preserved : goal.loop-word-preserved
loop-word-preserved c =
    let held = c.loop-word.held in
    let word = c.loop-word.word in
    let inv = c.loop-word.invariant in
    record {
      full = length-set held word _ ∙ inv.full;
      same = fill_by_more (λ x. get_or c.args.images.now x 0) held word 0 (omega (arith, inv.full, c.requires.few)) inv.same;
    }

pub returns : goal.returns
returns c =
    let held = c.loop-word.held in
    let images = c.args.images.now in
    let inv = c.loop-word.invariant in
    let n = length images in
    let many : length (take n held) ≡ n = length-take-le n held (omega (arith, inv.full, c.requires.few)) in
    ext_get_or 0 (take n held) images many (λ x h. let within : x < n = omega (arith, many) in get_or-take n held x 0 within ∙ inv.same x (omega arith))
