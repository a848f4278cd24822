use Rattle.std.proofs.Common.{◌≡◌, MatchOption, ap, ◌∙◌, rules}
use Rattle.elimination.specs.Lines.{choose_line, line_of, steeper}
use Rattle.elimination.specs.States.{state_of}
use Rattle.elimination.proofs.Lining.{chosen_is}
use Rattle.elimination.proofs.pair.Pair.try_line.Goals as goal

pub returns-clause-value : goal.returns-clause-value
returns-clause-value c =
    let p = c.args.self.now in
    let t = c.trial-new in
    let result = c.map_or.result in
    let kept : MatchOption c.args.best (result ≡ t.result) (λ old. result ≡ steeper c.cost.result old t.result) = search rules in
    chosen_is p.lines (state_of p) c.cost.result c.args.best t.result result c.cost.ensures.value c.requires.remembers t.ensures.tried kept
    ∙ ap (choose_line p.lines (state_of p) (line_of c.args.best)) t.ensures.line
