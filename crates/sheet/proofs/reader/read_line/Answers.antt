use Rattle.std.proofs.Common.{◌≡◌, sym, refl, ap, ◌∙◌, rules}
use Rattle.std.proofs.lemmas.Result.{err_from_is_err_and}
use Rattle.sheet.specs.declared.fault.Layer.TheVariants.{Contents}
use Rattle.sheet.specs.Fault.{placed}
use Rattle.sheet.proofs.Bodies.{line_ok, line_err}
use Rattle.sheet.proofs.reader.read_line.Goals as goal

pub returns-in_err-told : goal.returns-in_err-told
returns-in_err-told g c =
    λ f says.
    let p = err_from_is_err_and c.from_residual-in_err-told.result c.from_residual-in_err-told.ensures.1 in
    let placed_is : c.map_err.result ≡ placed Contents c.args.rest.number c.read.result = search rules in
    let same = says c.in_ok-text.text.now c.read.result (c.in_ok-text.text, c.read.ensures, refl) in
    rw (p.1, p.2) (line_err Contents c.args.rest.number f c.args.rest.lines.now _ c.in_ok-text.after.lines.now _ c.in_ok-text.ensures.0 (ap (placed Contents c.args.rest.number) (sym same) ∙ sym placed_is ∙ c.in_err-told.was))

pub returns : goal.returns
returns g c =
    λ f says.
    let placed_is : c.map_err.result ≡ placed Contents c.args.rest.number c.read.result = search rules in
    let same = says c.in_ok-text.text.now c.read.result (c.in_ok-text.text, c.read.ensures, refl) in
    (line_ok Contents c.args.rest.number f c.args.rest.lines.now _ c.in_ok-text.after.lines.now _ c.in_ok-text.ensures.0 (ap (placed Contents c.args.rest.number) (sym same) ∙ sym placed_is ∙ c.in_ok-told.was), c.in_ok-text.ensures.1)
