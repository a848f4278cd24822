use Rattle.std.proofs.Common.{◌≡◌, sym, ◌∙◌}
use Rattle.std.proofs.lemmas.Result.{err_from_is_err_and}
use Rattle.sheet.specs.declared.fault.Layer.TheVariants.{Body}
use Rattle.sheet.specs.Fault.{placed}
use Rattle.sheet.specs.Body.{body_line}
use Rattle.sheet.proofs.Bodies.{line_ok, line_err}
use Rattle.sheet.proofs.body.next_entry.Goals as goal
use Rattle.sheet.proofs.body.next_entry.Goals.{After-read_entry}

-- what `read_entry` answered
told : (c : After-read_entry) → c.read_entry.result ≡ placed Body c.args.rest.number (body_line c.args.contents.kind c.args.contents.lines c.args.at c.in_ok-text.text.now)
told c =
    let named = c.body_line-line.ensures in
    c.read_entry.ensures ∙ (λ j. placed Body (named.number j) (body_line (named.kind j) c.args.contents.lines c.args.at (named.text j)))

pub returns-in_err-entry : goal.returns-in_err-entry
returns-in_err-entry c =
    let p = err_from_is_err_and c.from_residual-in_err-entry.result c.from_residual-in_err-entry.ensures.1 in
    rw (p.1, p.2)
    (line_err Body c.args.rest.number (body_line c.args.contents.kind c.args.contents.lines c.args.at) c.args.rest.lines.now _ c.in_ok-text.after.lines.now _ c.in_ok-text.ensures.0 (sym (told (goal.at.returns-in_err-entry c).After-read_entry) ∙ c.in_err-entry.was))

pub returns : goal.returns
returns c =
    (line_ok Body c.args.rest.number (body_line c.args.contents.kind c.args.contents.lines c.args.at) c.args.rest.lines.now _ c.in_ok-text.after.lines.now _ c.in_ok-text.ensures.0 (sym (told (goal.at.returns c).After-read_entry) ∙ c.in_ok-entry.was), c.in_ok-text.ensures.1)
