use Rattle.std.proofs.Common.{◌≡◌, ◌+◌, ◌^◌, ◌<◌, None, Some, sym, ap, ◌∙◌, subst, arith}
use Rattle.std.proofs.lemmas.Bool.{leb-true, leb-false}
use Rattle.std.proofs.lemmas.Option.{MatchOption-at_some}
use Rattle.sheet.specs.Form.{both, numbers, rest_numbers, mct_of}
use Rattle.sheet.proofs.Lines.{mct_step, mct_low, set_room}
use Rattle.sheet.proofs.entry.read_mct.Goals as goal
use Rattle.sheet.proofs.entry.read_mct.Goals.{In-Some}

-- the first number of what is left, and the numbers after it
split : (c : In-Some) → numbers c.loop-x.rest.now ≡ both (Some c.in_ok-x.x) (numbers c.in-Some.more.now)
split c =
    let found : c.first_number.result ≡ Some (c.in_ok-x.x, c.in_ok-x.after) = grind arith in
    MatchOption-at_some (numbers c.loop-x.rest.now ≡ None) (λ p. numbers c.loop-x.rest.now ≡ both (Some p.0) (rest_numbers p.1)) (c.in_ok-x.x, c.in_ok-x.after) found c.first_number.ensures.value
    ∙ ap (λ o. both (Some c.in_ok-x.x) (rest_numbers o)) c.in-Some.is

pub returns-then-not-admits : goal.returns-then-not-admits
returns-then-not-admits c =
    sym (sym c.loop-x.invariant.1 ∙ mct_low c.args.n c.loop-x.invariant.0 c.loop-x.controls.least c.in_ok-x.x c.loop-x.rest.now c.in-Some.more.now (split (goal.at.returns-then-not-admits c).In-Some) (leb-false _ _ (sym c.if-not-admits.ensures)))

pub loop-x-preserved : goal.loop-x-preserved
loop-x-preserved c =
    let w = c.loop-x.invariant.0 in
    let x = c.in_ok-x.x in
    let next = c.with-controls.ensures.least in
    let above = leb-true _ _ (sym c.if-not-admits.ensures) in (
      w + 2 ^ x,
      ap (λ k. mct_of c.args.n (w + 2 ^ x) k (numbers c.in-Some.more.now)) next
          ∙ mct_step c.args.n w c.loop-x.controls.least x c.loop-x.rest.now c.in-Some.more.now (split (goal.at.loop-x-preserved c).In-Some) above ∙ c.loop-x.invariant.1,
      c.with-controls.ensures.set w c.loop-x.invariant.3 above c.loop-x.invariant.2,
      subst (λ k. w + 2 ^ x < 2 ^ k) (sym next) (set_room w _ x c.loop-x.invariant.3 above),
    )
