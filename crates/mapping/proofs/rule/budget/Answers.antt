use Rattle.std.proofs.Common.{ℕ, ◌-◌, ◌*◌, ap, arith}
use Rattle.std.proofs.lemmas.Nat.{one_shl}
use Rattle.mapping.specs.Rows.{table_plan}
use Rattle.mapping.proofs.rule.budget.Goals as goal

pub returns : goal.returns
unfolding table_plan
returns c = ap (λ (k : ℕ). c.args.lines * (k - 1)) (one_shl c.args.lines 64 (omega arith))
