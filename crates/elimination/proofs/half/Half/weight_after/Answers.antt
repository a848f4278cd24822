use Rattle.std.proofs.Common.{◌≡◌, subst, rules}
use Rattle.elimination.specs.declared.addition.Addition.{Addition}
use Rattle.elimination.specs.Halves.{Added}
use Rattle.elimination.proofs.Additions.{taken_back}
use Rattle.elimination.proofs.half.Half.weight_after.Goals as goal

pub returns-clause-same : goal.returns-clause-same
returns-clause-same c =
    let h = c.args.self.now in
    let a = c.args.addition in
    let q = c.new-trial.result.half.now in
    let r = c.drop-trial.new.self.0 in
    let told = c.new-trial.ensures in
    let back : Added a q r = subst (λ (b : Addition). Added b q r) told.same c.drop-trial.ensures in
    let s : r ≡ h = taken_back a h q r told.put back in
    search rules
