use Rattle.std.proofs.Common.{◌≡◌, ◌+◌, ◌^◌, true, drop, Ok, sym, refl, ap, ◌∙◌, arith}
use Rattle.std.proofs.lemmas.List.{take_rest, drop-drop}
use Rattle.std.proofs.lemmas.Option.{MatchOption-at_some}
use Rattle.std.proofs.lemmas.Result.{err_from_is_err_and}
use Rattle.std.proofs.lemmas.Bool.{and_parts, and_from, leb-true, lt-ltb}
use Rattle.sheet.specs.Text.{pieces, LinesEnd}
use Rattle.sheet.specs.Body.{told, how_many}
use Rattle.sheet.specs.Parts.{CutFrom}
use Rattle.sheet.proofs.Cutting.{next_rest, next_stop, cut_held}
use Rattle.sheet.proofs.reader.next_item.Goals as goal
use Rattle.sheet.proofs.reader.next_item.Goals.{After-check_body}

fine : (c : After-check_body) → told c.args.contents.kind c.args.contents.lines c.args.contents.count c.args.first ≡ true
fine c = and_from _ _ c.requires.0.0 (lt-ltb (c.args.first + c.args.contents.count) (2 ^ 64) (omega (arith, c.requires.0.1, c.requires.1.0)))

ends : (c : After-check_body) → LinesEnd (drop c.args.start c.args.sheet.now) c.args.contents.count c.lines_end.result
ends c = rw take_rest at c.lines_end.ensures

cut : (c : After-check_body) → CutFrom c.args.sheet.now (record { contents = c.args.contents; first = c.args.first; start = c.args.start; end = c.args.start + c.lines_end.result }) c.unwrap-body.result
cut c = MatchOption-at_some _ _ _ c.unwrap-body.ensures c.body.ensures

pub returns-in_err-check_body : goal.returns-in_err-check_body
returns-in_err-check_body c =
    let p = err_from_is_err_and c.from_residual.result c.from_residual.ensures.1 in
    let d = (goal.at.returns-in_err-check_body c).After-check_body in
    let held = cut_held c.args.sheet.now c.args.contents c.args.first c.args.start c.lines_end.result c.unwrap-body.result (cut d) in
    rw (p.1, p.2)
    (next_stop c.args.contents c.args.first (drop c.args.start c.args.sheet.now) c.lines_end.result (fine d) (ends d) _ (sym (ap how_many held) ∙ sym c.check_body.ensures ∙ c.in_err-check_body.was))

pub returns : goal.returns
returns c =
    let d = (goal.at.returns c).After-check_body in
    let held = cut_held c.args.sheet.now c.args.contents c.args.first c.args.start c.lines_end.result c.unwrap-body.result (cut d) in
    record {
      item = refl;
      ordered = omega arith;
      within = leb-true _ _ (and_parts _ _ (cut d).lies).1;
      rest =
          next_rest c.args.contents c.args.first (drop c.args.start c.args.sheet.now) c.lines_end.result (fine d) (ends d) _ (sym (ap how_many held) ∙ sym c.check_body.ensures ∙ c.in_ok-check_body.was)
          ∙ ap (λ z. Ok (pieces 10 z)) (drop-drop c.lines_end.result c.args.start c.args.sheet.now);
    }
