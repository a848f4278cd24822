use Rattle.std.proofs.Common.{◌≡◌, ◌+◌, [], ◌∷◌, ◌++◌, set, Err, sym, refl, ap, ◌∙◌, arith, length-append}
use native.Mathlib.Nat.{sub-zero}
use Rattle.std.proofs.lemmas.Result.{err_from_is_err_and}
use Rattle.std.proofs.lemmas.Bool.{eqb-false}
use Rattle.gates.specs.declared.refusal.Refusal.TheVariants.{WrongForm}
use Rattle.sheet.specs.declared.fault.Layer.TheVariants.{Body}
use Rattle.sheet.specs.Text.{pieces}
use Rattle.sheet.specs.Fault.{fault, line_by}
use Rattle.sheet.specs.Body.{body_line, how_many}
use Rattle.sheet.proofs.Bodies.{after_none, body_more, body_stop, body_end}
use Rattle.sheet.proofs.Holding.{held_stop, held_over, laid_none, laid_more}
use Rattle.sheet.proofs.body.read_lines.Goals as goal

pub loop-at-init : goal.loop-at-init
loop-at-init c = ([], refl, rw (sub-zero, c.unread-rest.ensures.lines) (after_none _), laid_none _, omega arith)

pub returns-in_err-entry-clause-answer : goal.returns-in_err-entry-clause-answer
returns-in_err-entry-clause-answer c =
    let b = c.args.body in
    let p = err_from_is_err_and c.from_residual.result c.from_residual.ensures.1 in
    let inv = c.loop-at.invariant in
    let here = ap (λ i. line_by Body i (body_line b.contents.kind b.contents.lines c.loop-at.at) (pieces 10 c.loop-at.rest.lines.now)) (sym inv.4) in
    let stop = body_stop b.contents.kind b.contents.lines b.first _ inv.0 c.loop-at.at b.contents.count _ inv.2 c.loop-at-test.true _ (here ∙ c.in_err-entry.ensures) in
    rw (p.1, p.2) (sym (ap how_many (held_stop b.contents.kind b.contents.lines b.contents.count b.first b.part.now (sym c.if-not-is_told.ensures) _ stop)))

pub loop-at-preserved : goal.loop-at-preserved
loop-at-preserved c =
    let b = c.args.body in
    let inv = c.loop-at.invariant in
    let here = ap (λ i. line_by Body i (body_line b.contents.kind b.contents.lines c.loop-at.at) (pieces 10 c.loop-at.rest.lines.now)) (sym inv.4) in
    let entry = c.in_ok-entry.entry in (
      inv.0 ++ entry ∷ [],
      omega (arith, length-append inv.0 (entry ∷ []), inv.1),
      body_more b.contents.kind b.contents.lines b.first _ inv.0 c.loop-at.at b.contents.count _ inv.2 c.loop-at-test.true _ _ (here ∙ c.in_ok-entry.ensures.0),
      c.lay.ensures ∙ (λ j. set (inv.3 j) (sym inv.1 j) entry) ∙ laid_more c.args.entries.now inv.0 entry,
      omega (arith, c.in_ok-entry.ensures.1, inv.4),
    )

pub returns-then-not-is_empty-clause-answer : goal.returns-then-not-is_empty-clause-answer
returns-then-not-is_empty-clause-answer c =
    let b = c.args.body in
    let inv = c.loop-at.invariant in
    let end = body_end b.contents.kind b.contents.lines b.first _ inv.0 c.loop-at.at b.contents.count _ inv.2 c.loop-at-test.false in
    let all : c.loop-at.at ≡ b.contents.count = omega arith in
    let over = held_over b.contents.kind b.contents.lines b.contents.count b.first b.part.now (sym c.if-not-is_told.ensures) inv.0 c.loop-at.rest.lines.now end (eqb-false _ 0 (sym c.if-not-is_empty.ensures)) in
    ap Err (c.in_body-then-not-is_empty.ensures ∙ ap (λ i. fault WrongForm i Body) (inv.4 ∙ ap (λ i. b.first + i) all)) ∙ sym (ap how_many over)
