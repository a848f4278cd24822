use Rattle.std.proofs.Common.{◌∙◌}
use Rattle.sheet.proofs.Lines.{with_more}
use Rattle.sheet.proofs.entry.Controls.with.Goals as goal

pub returns-clause-set : goal.returns-clause-set
returns-clause-set c = λ w l h e. c.with_line.ensures ∙ with_more c.args.self.set w c.args.self.least c.args.control l h e
