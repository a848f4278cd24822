use Rattle.std.proofs.Common.{◌<◌, rules}
use Rattle.mapping.proofs.OnesLaws.{and_not}
use Rattle.mapping.proofs.word.without.Goals as goal

pub returns : goal.returns
returns c =
    let word : c.args.word < 256 = search rules in
    let other : c.args.other < 256 = search rules in
    and_not c.args.word c.args.other word other
