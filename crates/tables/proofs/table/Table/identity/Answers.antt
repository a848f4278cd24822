use Rattle.std.proofs.Common.{◌≡◌, ◌^◌, get_or, sym, ◌∙◌, rules, arith}
use Rattle.pieces.proofs.Fits.{fits}
use Rattle.tables.specs.Tables.{counting, images_of}
use Rattle.tables.proofs.Counting.{length_counting, getD_counting, counting_narrow}
use Rattle.tables.proofs.Images.{images_are}
use Rattle.tables.proofs.table.Table.identity.Goals as goal

pub returns : goal.returns
returns c =
    let n = c.args.lines in
    let words = counting 0 (2 ^ n) in
    let many = length_counting 0 (2 ^ n) in
    let made = c.by in (
      fits 8 n (2 ^ n) words (omega arith) (omega arith) many (counting_narrow n 0 0 (2 ^ n) (omega arith)),
      made.ensures.lines,
      images_are made.result n words made.ensures.lines many (λ x h. let p = made.ensures.images x h in let is : get_or (images_of made.result) x 0 ≡ x = search rules in is ∙ sym (getD_counting 0 (2 ^ n) x h ∙ omega arith)),
    )
