use Rattle.std.proofs.Common.{take, sym, ap, ◌∙◌, arith, length-set, length-take-le}
use Rattle.std.proofs.lemmas.List.{take_all, take_more_set}
use Rattle.sheet.specs.Form.{just, rest_numbers}
use Rattle.sheet.proofs.Ahead.{ahead, ahead_more, just_unread, just_short, just_end}
use Rattle.sheet.proofs.numbers.read_numbers.Goals as goal

pub returns-in_err-rest : goal.returns-in_err-rest
returns-in_err-rest g c =
    let xs = take c.loop-number.number-index c.loop-number.number-items in
    let long = length-take-le c.loop-number.number-index c.loop-number.number-items (omega arith) in
    rw c.from_residual.ensures (sym (ap (just g.row.N) (c.loop-number.invariant.0 ∙ ap (λ o. ahead xs (rest_numbers o)) c.in_err-rest.was) ∙ just_short g.row.N xs (omega (arith, long))))

pub returns-in_err-x : goal.returns-in_err-x
returns-in_err-x g c =
    let xs = take c.loop-number.number-index c.loop-number.number-items in
    rw c.from_residual-in_err-x.ensures (sym (ap (just g.row.N) (c.loop-number.invariant.0 ∙ ap (λ o. ahead xs (rest_numbers o)) c.in_ok-rest.was ∙ ap (ahead xs) c.in_err-x.ensures.value) ∙ just_unread g.row.N xs))

pub loop-number-preserved : goal.loop-number-preserved
loop-number-preserved g c =
    let i = c.loop-number.number-index in
    let items = c.loop-number.number-items in
    let xs = take i items in (
      c.loop-number.invariant.0 ∙ ap (λ o. ahead xs (rest_numbers o)) c.in_ok-rest.was ∙ ap (ahead xs) c.in_ok-x.ensures.value ∙ ahead_more xs c.in_ok-x.x (rest_numbers c.in_ok-x.after)
          ∙ ap (λ z. ahead z (rest_numbers c.in_ok-x.after)) (sym (take_more_set items i c.in_ok-x.x (omega arith))),
      length-set _ _ _ ∙ c.loop-number.invariant.1,
    )

pub returns : goal.returns
returns g c =
    let items = c.loop-number.number-items in
    let all = take_all c.loop-number.number-index items (omega arith) in
    c.then_some.ensures ∙ just_end g.row.N items c.loop-number.rest c.is_none.result c.loop-number.invariant.1 c.is_none.ensures ∙ sym (ap (just g.row.N) (c.loop-number.invariant.0 ∙ ap (λ z. ahead z (rest_numbers c.loop-number.rest)) all))
