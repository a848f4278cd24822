use Rattle.std.proofs.Common.{◌≡◌, ◌+◌, get_or, drop, length, decimal, Some, sym, ap, ◌∙◌, arith}
use Rattle.std.proofs.lemmas.Bool.{eqb-false}
use Rattle.sheet.specs.declared.contents.Kind.TheVariants.{Matrix}
use Rattle.answers.specs.declared.head.AnswerKind.TheVariants.{Item}
use Rattle.answers.specs.declared.head.Head.{Head}
use Rattle.answers.specs.Sums.{unfit_from}
use Rattle.answers.specs.LineLaws.{decimal_long}
use Rattle.answers.proofs.Fitting.{unfit_some, fitting_size}
use Rattle.answers.proofs.Headings.{contents_long, heading_long, head_end, contents_end, heading_end, unfit_line, unfit_body, unfit_later}
use Rattle.answers.proofs.contents.first_unfit.Goals as goal
use Rattle.answers.proofs.contents.first_unfit.Goals.{then-ends_past-via-then-ends_past, then-ends_past-via-else-ends_past+then-ends_past-2}

abbrev none : Head
none = record { kind = Item Matrix; lines = 0; count = 0; size = 0 }

pub loop-i-init : goal.loop-i-init
loop-i-init c =
    let hs = c.args.heads.now.items in
    let first : c.line_after-first.result ≡ length hs + 2 = omega arith in
    let line : c.head_line.new.self.at ≡ length (decimal (length hs)) + 1 = head_end _ _ _ c.head_line.ensures c.nowhere-pen-2.ensures.at ∙ ap (λ k. length (decimal k) + 1) c.len.ensures.value in
    let start = heading_end _ _ hs c.heading.ensures c.nowhere-pen.ensures.at (omega arith) in
    record {
      others = unfit_some c.args.room hs (eqb-false _ _ (sym c.if-is_empty.ensures)) ∙ (λ j. unfit_from c.args.room 2 (sym first j) (sym line j) (sym start j) hs);
      line = omega arith;
      place = omega (arith, line, decimal_long (length hs));
      body = omega (arith, start, heading_long hs);
    }

pub returns-then-ends_past : goal.returns-then-ends_past
returns-then-ends_past c =
    let hs = c.deref-head-items.result.now in
    let h = get_or hs c.loop-i.i none in
    let end = contents_end _ _ c.loop-i.first h c.contents_line.ensures (omega arith) in
    let here : unfit_from c.args.room (c.loop-i.i + 2) c.loop-i.first c.loop-i.pen.at c.loop-i.start (drop c.loop-i.i hs) ≡ Some (c.loop-i.i + 2) =
    elim c.then-ends_past.branch [
      | then-ends_past-via-then-ends_past w ↦ unfit_line _ _ _ _ _ hs c.loop-i.i none c.loop-i-test.true _ end w.if-ends_past.ensures
      | then-ends_past-via-else-ends_past+then-ends_past-2 w ↦ unfit_body _ _ _ _ _ hs c.loop-i.i none c.loop-i-test.true _ end w.if-ends_past-2.ensures
    ] in
    cc (here, c.deref-head-items.ensures.0)

pub loop-i-preserved : goal.loop-i-preserved
loop-i-preserved c =
    let hs = c.deref-head-items.result.now in
    let h = get_or hs c.loop-i.i none in
    let end = contents_end _ _ c.loop-i.first h c.contents_line.ensures (omega arith) in
    let next : c.loop-i.i + 2 + 1 ≡ c.loop-i.i + 1 + 2 = omega arith in
    let later = unfit_later c.args.room (c.loop-i.i + 2) c.loop-i.first c.loop-i.pen.at c.loop-i.start hs c.loop-i.i none c.loop-i-test.true _ end c.if-ends_past.ensures c.if-ends_past-2.ensures in
    record {
      others = cc (later, next, c.deref-head-items.ensures.0);
      line = omega arith;
      place = omega (arith, end, contents_long c.loop-i.first h);
      body = omega (arith, fitting_size c.args.room c.loop-i.start h.size c.if-ends_past-2.ensures);
    }
