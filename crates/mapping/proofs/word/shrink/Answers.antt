use Rattle.std.proofs.Common.{ltb, leb, sym, ◌∙◌, ⊎_elim, arith}
use Rattle.std.proofs.lemmas.Bool.{and_parts, and_cases, leb-true, leb-false, ltb-false}
use Rattle.mapping.specs.Ones.{drop_lowest}
use Rattle.mapping.proofs.MappingLaws.{shrink_step, shrink_stop, shrink_none}
use Rattle.mapping.proofs.word.shrink.Goals as goal

pub loop-c-preserved : goal.loop-c-preserved
loop-c-preserved c =
    let w = c.loop-c.c in
    let x = c.args.x in
    let more = leb-true x (drop_lowest w) (and_parts (ltb 0 w) (leb x (drop_lowest w)) (sym c.loop-c-test.ensures)).1 in
    sym (shrink_step w x more) ∙ c.loop-c.invariant

pub returns : goal.returns
returns c =
    let w = c.loop-c.c in
    let x = c.args.x in
    ⊎_elim
    (λ q. shrink_none w x (omega (arith, ltb-false 0 w q)) ∙ c.loop-c.invariant)
    (λ q. sym (shrink_stop w x (leb-false x (drop_lowest w) q)) ∙ c.loop-c.invariant)
    (and_cases (ltb 0 w) (leb x (drop_lowest w)) (sym c.loop-c-test.ensures))
