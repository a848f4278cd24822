use Rattle.std.proofs.Common.{◌<◌, [], ◌∷◌, ◌++◌, Err, sym, ap, ◌∙◌, arith}
use Rattle.sheet.specs.declared.contents.Contents.{Contents}
use Rattle.sheet.specs.declared.contents.Kind.TheVariants.{Matrix}
use Rattle.sheet.specs.Sheet.{Sound}
use Rattle.sheet.specs.Parts.{sheet_items}
use Rattle.sheet.proofs.Places.{places_more, places_over}
use Rattle.sheet.proofs.Sound.{every_at}
use Rattle.sheet.proofs.reader.read_bodies.Goals as goal
use Rattle.sheet.proofs.reader.read_bodies.Goals.{In_ok-item}

none : Contents
none = record { kind = Matrix; lines = 0; count = 0 }

-- the item has the count of its contents line
small : (c : In_ok-item) → c.in_ok-item.item.contents.count < 100000
unfolding none
small c = omega (arith, ap (λ z. z.contents.count) c.in_ok-item.ensures.item, (every_at Sound c.args.contents.now c.loop-told.told-index none c.requires.1.0 c.loop-told-test.true).1)

pub loop-told-preserved : goal.loop-told-preserved
loop-told-preserved c =
    let next = c.in_ok-item.ensures in (
      places_more _ _ c.args.contents.now _ _ _ c.args.sheet.now c.loop-told.invariant.0 c.loop-told-test.true _ _ _ _ next.ordered next.within next.rest
          (c.push.ensures.items ∙ ap (λ z. sheet_items c.loop-told.items ++ z ∷ []) next.item) (ap (λ z. z.contents.count) next.item),
      omega (arith, small (goal.at.loop-told-preserved c).In_ok-item),
      omega (arith, c.push.ensures.count),
      next.within,
    )

pub returns-then-start-sheet : goal.returns-then-start-sheet
returns-then-start-sheet c =
    ap Err c.in_body.ensures ∙ sym (places_over _ _ c.args.contents.now _ _ _ c.args.sheet.now c.loop-told.invariant.0 c.loop-told-test.false c.if-start-sheet.true)
