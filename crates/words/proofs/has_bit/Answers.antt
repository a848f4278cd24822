use Rattle.std.proofs.Common.{ℕ, eqb, sym, ap, ◌∙◌}
use Rattle.std.proofs.lemmas.Bool.{le-ltb}
use Rattle.words.proofs.Bits.{bit_above}
use Rattle.words.proofs.has_bit.Goals as goal

pub returns-else-line-lt64 : goal.returns-else-line-lt64
returns-else-line-lt64 c =
    le-ltb c.args.line 64 c.if-line-lt64.false
    ∙ sym (ap (λ (b : ℕ). eqb b 1) (bit_above 64 c.args.word c.args.line c.ranges.word.fits c.if-line-lt64.false))
