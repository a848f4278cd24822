use Rattle.gates.specs.CnotLaws.{cnot_tell}
use Rattle.gates.proofs.cnot.CnotProbed.probe_count.Goals as goal

pub returns : goal.returns
returns c = record { count = c.unit_count.ensures; tell = cnot_tell c.args.n }
