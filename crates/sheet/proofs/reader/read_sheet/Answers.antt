use Rattle.std.proofs.Common.{sym, ◌∙◌, arith, rules}
use Rattle.sheet.specs.Text.{pieces}
use Rattle.sheet.proofs.Sound.{head_small, contents_lines_sound}
use Rattle.sheet.proofs.Entire.{tail_short, sheet_placed}
use Rattle.sheet.proofs.ValidBack.{lawful}
use Rattle.sheet.proofs.reader.read_sheet.Goals as goal

pub returns-in_err-count-clause-law : goal.returns-in_err-count-clause-law
returns-in_err-count-clause-law c = lawful c.args.sheet.now _ (search rules)

pub returns-in_err-contents-clause-law : goal.returns-in_err-contents-clause-law
returns-in_err-contents-clause-law c = lawful c.args.sheet.now _ (search rules)

pub overflow_sub-sheet : goal.overflow_sub-sheet
overflow_sub-sheet c =
    tail_short c.args.sheet.now (sym c.if-not-has_length.ensures) _ c.in_ok-count.rest.lines.now c.in_ok-count.ensures.0 _ c.in_ok-contents.bodies.lines.now c.in_ok-contents.ensures

pub read_bodies-requires : goal.read_bodies-requires
read_bodies-requires c =
    let k = head_small (pieces 10 c.args.sheet.now) _ _ c.in_ok-count.ensures.0 in
    let s = contents_lines_sound _ 2 _ (pieces 10 c.in_ok-count.rest.lines.now) _ _ c.in_ok-contents.ensures in
    rw c.deref.ensures.0 (omega (arith, s.0, k.1), (s.1, omega arith))

pub returns : goal.returns
returns c =
    let placed = sheet_placed c.args.sheet.now (sym c.if-not-has_length.ensures) _ c.in_ok-count.rest.lines.now c.in_ok-count.ensures.0 _ c.in_ok-contents.bodies.lines.now c.in_ok-contents.ensures in
    let p = (rw c.deref.ensures.0 at c.read_bodies.ensures) ∙ placed in
    record { reads = p; law = lawful c.args.sheet.now _ p }
