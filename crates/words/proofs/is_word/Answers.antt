use Rattle.std.proofs.Common.{sym, ◌∙◌}
use Rattle.std.proofs.lemmas.Bool.{le-leb, lt-ltb}
use Rattle.words.proofs.Flips.{wide_word}
use Rattle.words.proofs.is_word.Goals as goal

pub returns-then-n-ge64 : goal.returns-then-n-ge64
returns-then-n-ge64 c =
    le-leb 64 c.args.n c.if-n-ge64.true
    ∙ sym (lt-ltb c.args.word _ (wide_word c.args.n c.args.word c.if-n-ge64.true c.ranges.word.fits))
