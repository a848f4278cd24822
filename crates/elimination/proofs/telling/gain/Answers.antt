use Rattle.std.proofs.Common.{◌≡◌, ℕ, true, false, pos, ◌-ℤ◌, Err, sym, ap, ◌∙◌, subst, ap₂, arith, w32, SFits}
use Rattle.std.proofs.lemmas.Result.{err_from_is_err_and, MatchResult-from_err}
use Rattle.std.proofs.lemmas.Bool.{both_ways}
use Rattle.std.proofs.lemmas.Int.{to_z-of_z, ints}
use Rattle.gates.specs.Cnots.{cnot_legal}
use Rattle.matrices.specs.Matrices.{image}
use Rattle.matrices.specs.Meanings.{rows_of}
use Rattle.clearing.specs.Clearing.{Placed}
use Rattle.clearing.specs.Pairs.{cost, pairs, place_at}
use Rattle.elimination.specs.Costs.{map_gain, Between}
use Rattle.elimination.specs.States.{state_of}
use Rattle.elimination.proofs.CostLaws.{checked_ok, checked_err, clash_told, value_told, cost_told, cost_after_told, gain_between}
use Rattle.elimination.proofs.telling.gain.Goals as goal

pub returns-in_err-check : goal.returns-in_err-check
returns-in_err-check c =
    let m = c.args.matrix.now in
    let g = c.args.gate in
    let e = err_from_is_err_and c.from_residual.result c.from_residual.ensures.1 in
    let no = checked_err (cnot_legal c.lines.result g) c.in_err-check.field-0.0 c.in_err-check.ensures in
    let off : cnot_legal m.lines g ≡ false = ap (λ (n : ℕ). cnot_legal n g) (sym c.lines.ensures.count) ∙ no.0 in
    record {
      told = record { illegal = λ _. e.1 ∙ ap Err (e.2 ∙ no.1); legal = λ on. absurd (both_ways (cnot_legal m.lines g) off on) };
      between = MatchResult-from_err _ _ _ c.from_residual.ensures.0 (λ _. tt);
    }

pub returns-in_err-pair : goal.returns-in_err-pair
returns-in_err-pair c =
    let r = c.from_residual-in_err-pair in
    let e = err_from_is_err_and r.result r.ensures.1 in
    let m = c.args.matrix.now in
    let g = c.args.gate in
    let on : cnot_legal m.lines g ≡ true = ap (λ (n : ℕ). cnot_legal n g) (sym c.lines.ensures.count) ∙ checked_ok (cnot_legal c.lines.result g) _ c.in_ok-check.ensures in
    record {
      told = record {
        illegal = λ off. absurd (both_ways (cnot_legal m.lines g) off on);
        legal = λ _. clash_told m (map_gain m.lines (image (rows_of m)) c.args.end g) c.in_err-pair.field-0.0 r.result c.in_err-pair.ensures (e.1 ∙ ap Err e.2);
      };
      between = MatchResult-from_err _ _ _ r.ensures.0 (λ _. tt);
    }

pub returns : goal.returns
returns c =
    let m = c.args.matrix.now in
    let n = m.lines in
    let e = c.args.end in
    let g = c.args.gate in
    let p = c.in_ok-pair.pair in
    let is = c.in_ok-pair.ensures in
    let on : cnot_legal n g ≡ true = ap (λ (k : ℕ). cnot_legal k g) (sym c.lines.ensures.count) ∙ checked_ok (cnot_legal c.lines.result g) _ c.in_ok-check.ensures in
    let after : c.cost_after.result ≡ cost (place_at e g (state_of p)) = c.cost_after.ensures.value ∙ ap (λ (x : Placed). cost (pairs.place x (state_of p))) c.of-addition.ensures in
    let fits : SFits w32 c.difference.result = omega (arith, ints, c.difference.ensures, c.cost-before.ensures.small, c.cost_after.ensures.small) in
    let value : _ ≡ pos (cost (state_of p)) -ℤ pos (cost (place_at e g (state_of p))) =
    to_z-of_z w32 c.difference.result fits ∙ c.difference.ensures ∙ ap₂ (λ (x y : ℕ). pos x -ℤ pos y) c.cost-before.ensures.value after in
    record {
      told = record {
        illegal = λ off. absurd (both_ways (cnot_legal n g) off on);
        legal = λ _. value_told m p (map_gain n (image (rows_of m)) e g) _ is (value ∙ ap₂ (λ (x y : ℕ). pos x -ℤ pos y) (cost_told m p is) (cost_after_told m p is e g on));
      };
      between = subst (Between n) (sym value)
          (subst (λ (k : ℕ). Between k (pos (cost (state_of p)) -ℤ pos (cost (place_at e g (state_of p))))) is.0 (gain_between p e g (ap (λ (k : ℕ). cnot_legal k g) is.0 ∙ on)));
    }
