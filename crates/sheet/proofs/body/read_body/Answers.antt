use Rattle.std.proofs.Common.{List, length, Err, sym, ap, ◌∙◌, subst}
use Rattle.std.proofs.lemmas.Result.{err_from_is_err_and}
use Rattle.sheet.specs.declared.entry.Entry.{Entry}
use Rattle.sheet.specs.Body.{held_by, laid_by, Fills, Filled}
use Rattle.sheet.proofs.Accepted.{err_then}
use Rattle.sheet.proofs.Holding.{filled}
use Rattle.sheet.proofs.body.read_body.Goals as goal

pub returns-in_err-check_body : goal.returns-in_err-check_body
returns-in_err-check_body c =
    let p = err_from_is_err_and c.from_residual.result c.from_residual.ensures.1 in
    let stop = sym c.check_body.ensures ∙ c.in_err-check_body.was in
    let held = err_then (held_by c.args.body) (λ (es : List Entry). length es) _ stop in
    record {
      answer = p.1 ∙ ap Err p.2 ∙ sym stop;
      entries = sym (ap (λ z. laid_by z c.args.entries.now) held);
      filled = subst (λ r. Filled r (held_by c.args.body) c.args.entries.now) (sym (p.1 ∙ ap Err p.2)) held;
    }

pub returns : goal.returns
returns c =
    let fine = c.read_lines.ensures.answer ∙ sym c.check_body.ensures ∙ c.in_ok-check_body.was in
    let laid = subst (λ r. Fills r (held_by c.args.body) c.args.entries.now c.read_lines.new.entries) fine c.read_lines.ensures.entries in
    record {
      answer = c.read_lines.ensures.answer;
      entries = laid;
      filled = subst (Filled c.read_lines.result (held_by c.args.body)) (sym laid) (filled c.read_lines.result (held_by c.args.body) c.args.entries.now c.read_lines.ensures.answer);
    }
