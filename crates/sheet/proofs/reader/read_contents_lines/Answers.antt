use Rattle.std.proofs.Common.{◌+◌, ◌-◌, refl, arith}
use Rattle.std.proofs.lemmas.Result.{err_from_is_err_and}
use Rattle.sheet.specs.Text.{pieces}
use Rattle.sheet.specs.Sheet.{Sound}
use Rattle.sheet.proofs.Sound.{gives_at, line_sound}
use Rattle.sheet.proofs.Sheets.{contents_more, contents_stop}
use Rattle.sheet.proofs.reader.read_contents_lines.Goals as goal

pub returns-in_err-item : goal.returns-in_err-item
returns-in_err-item c =
    let p = err_from_is_err_and c.from_residual.result c.from_residual.ensures.1 in
    let i = c.loop-item._item in
    rw (p.1, p.2) (contents_stop _ _ (c.args.k - i) (c.args.k - (i + 1)) _ _ _ (omega arith) c.loop-item.invariant.0 _ c.in_err-item.ensures)

pub overflow_add-first-in-loop-item : goal.overflow_add-first-in-loop-item
overflow_add-first-in-loop-item c = omega (arith, (gives_at (λ x. Sound x.0) _ _ (line_sound _ _ (pieces 10 c.loop-item.rest.lines.now)) c.in_ok-item.ensures.0).1)

pub loop-item-preserved : goal.loop-item-preserved
loop-item-preserved c =
    let i = c.loop-item._item in (
      contents_more _ _ (c.args.k - i) (c.args.k - (i + 1)) c.loop-item.rest.number _ _ (omega arith) c.loop-item.invariant.0 _ _ _ c.in_ok-item.after.number _ c.in_ok-item.ensures.0 c.push.ensures.items (omega (arith, c.in_ok-item.ensures.1)) refl,
      omega (arith, (gives_at (λ x. Sound x.0) _ _ (line_sound _ _ (pieces 10 c.loop-item.rest.lines.now)) c.in_ok-item.ensures.0).1),
      omega (arith, c.push.ensures.len),
      omega (arith, c.in_ok-item.ensures.1, c.loop-item.invariant.3),
    )
