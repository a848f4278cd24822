use Rattle.std.proofs.Common.{◌<◌, ◌≤◌, length, add-one, arith, rules, length-drop, length-take-le}
use Rattle.std.proofs.lemmas.List.{take_rest}
use Rattle.sheet.proofs.Pieces.{pieces_at, pieces_none}
use Rattle.sheet.proofs.text.split_once.Goals as goal

pub returns-in_err-at : goal.returns-in_err-at
returns-in_err-at c = rw c.from_residual.ensures (pieces_none c.args.sep c.args.s.now (search rules))

pub returns : goal.returns
returns c =
    let s = c.args.s.now in
    let at = c.in_ok-at.at in
    let inside : at < length s = search rules in
    let within : at ≤ length s = omega arith in
    rw (take_rest, add-one at) (pieces_at c.args.sep s at inside (search rules) (search rules), simp (length-take-le, length-drop) (omega arith))
