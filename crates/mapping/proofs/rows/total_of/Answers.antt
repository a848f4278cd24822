use Rattle.std.proofs.Common.{ℕ, ◌+◌, length, sym, ap, ◌∙◌, ap₂}
use Rattle.mapping.specs.Mapping.{mapping}
use Rattle.mapping.proofs.MappingLaws.{weigh_length}
use Rattle.mapping.proofs.RunLaws.{image_is}
use Rattle.mapping.proofs.rows.total_of.Goals as goal

pub returns-clause-is : goal.returns-clause-is
returns-clause-is c =
    let i = c.args.row in
    let j = c.args.word in
    let image = sym (image_is c.args.table.now j c.requires.word) in
    ap₂ (λ (p q : ℕ). p + q)
    (c.mapping_len.ensures.is ∙ sym (weigh_length (mapping j i)))
    (c.mapping_len-2.ensures.is ∙ ap (λ (y : ℕ). length (mapping y i)) image ∙ sym (weigh_length (mapping _ i)))
