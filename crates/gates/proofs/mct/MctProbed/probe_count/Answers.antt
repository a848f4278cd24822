use Rattle.gates.specs.MctLaws.{mct_tell}
use Rattle.gates.proofs.mct.MctProbed.probe_count.Goals as goal

pub returns : goal.returns
returns c = record { count = c.word_count.ensures; tell = mct_tell c.args.n }
