use Rattle.std.proofs.Common.{ℕ, Ok, Err, refl, ap, ◌∙◌, subst, ap₂}
use Rattle.std.proofs.lemmas.Result.{err_from_is_err_and, MatchResult-from_err}
use Rattle.words.specs.Maps.{Identity}
use Rattle.books.specs.Books.{ends}
use Rattle.books.proofs.KeptLaws.{kept_none}
use Rattle.matrices.specs.Matrices.{image}
use Rattle.matrices.specs.Meanings.{rows_of}
use Rattle.clearing.specs.Clearing.{run}
use Rattle.clearing.specs.Laws.{room}
use Rattle.clearing.specs.Pairs.{pairs}
use Rattle.clearing.specs.Pairs.{Pair as State}
use Rattle.elimination.specs.Finds.{all_put}
use Rattle.elimination.proofs.RunLaws.{tells_clash, tells_short, beside, beside_is, beside_inverses, ran, never_unmade, units_identity}
use Rattle.elimination.proofs.rule.EliminationRuleCnotMatrix.run.Goals as goal

pub returns-in_err-pair : goal.returns-in_err-pair
returns-in_err-pair c =
    let e = err_from_is_err_and c.from_residual.result c.from_residual.ensures.1 in
    let m = c.args.matrix.now in
    let b = c.args.book.now in
    record {
      answer = tells_clash m b c.in_err-pair.field-0.0 c.from_residual.result c.in_err-pair.ensures (e.1 ∙ ap Err e.2);
      after = MatchResult-from_err _ _ _ c.from_residual.ensures.0 (λ _. (refl, refl));
      kept = kept_none b;
    }

pub returns-in_err-enough_places : goal.returns-in_err-enough_places
returns-in_err-enough_places c =
    let r = c.from_residual-in_err-enough_places in
    let e = err_from_is_err_and r.result r.ensures.1 in
    let m = c.args.matrix.now in
    let b = c.args.book.now in
    record {
      answer = tells_short m c.in_ok-pair.pair b c.places_needed.result c.free.result r.result c.in_ok-pair.ensures
          (c.places_needed.ensures ∙ ap room c.lines-lines.ensures.count) c.free.ensures
          (e.1 ∙ ap Err e.2 ∙ c.in_err-enough_places.ensures.answer);
      after = MatchResult-from_err _ _ _ r.ensures.0 (λ _. (refl, refl));
      kept = kept_none b;
    }

pub returns-in_err-matrix : goal.returns-in_err-matrix
returns-in_err-matrix c =
    absurd (never_unmade c.lines-lines.result c.lines-lines.ensures.least c.lines-lines.ensures.most c.in_err-matrix.field-0.0 c.in_err-matrix.ensures)

pub returns : goal.returns
returns c =
    let m = c.args.matrix.now in
    let b = c.args.book.now in
    let p = c.in_ok-pair.pair in
    let is = c.in_ok-pair.ensures in
    let k = c.lines-lines.result in
    let count = c.lines-lines.ensures.count in
    let made = c.in_ok-matrix.ensures in
    let rows = rows_of c.in_ok-matrix.field-0 in
    let fixed : Identity m.lines (image rows) =
    subst (λ (n : ℕ). Identity n (image rows)) count (units_identity k c.lines-lines.ensures.least c.lines-lines.ensures.most rows made.2) in
    record {
      answer = tells_short m p b c.places_needed.result c.free.result (Ok tt) is (c.places_needed.ensures ∙ ap room count) c.free.ensures c.in_ok-enough_places.ensures.answer;
      after = ran m.lines m.few (beside m p) (beside_inverses m p is) b c.run.new.book _ rows fixed (made.1 ∙ count)
          (c.run.ensures.ends ∙ ap₂ (λ (n : ℕ) (s : State). all_put (run pairs n s).gates (ends b)) is.0 (beside_is m p is));
      kept = c.run.ensures.kept;
    }
