use Rattle.std.proofs.Common.{rules, arith}
use Rattle.answers.proofs.Faults.{fault_long}
use Rattle.answers.proofs.Pens.{puts_of}
use Rattle.answers.proofs.fault.write_fault.Goals as goal

pub returns : goal.returns
returns c = puts_of _ _ _ _ c.fault.ensures (omega (arith, fault_long c.args.fault)) (search rules)
