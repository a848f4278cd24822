use Rattle.std.proofs.Common.{length, ap, ◌∙◌}
use Rattle.elimination.proofs.Additions.{length_flipped}
use Rattle.elimination.proofs.half.Half.spread.Goals as goal

pub invariant_of-self : goal.invariant_of-self
invariant_of-self c =
    let h = c.args.self.now in
    let a = c.args.addition in
    record {
      full = ap length c.flip.ensures ∙ length_flipped h.first a.to a.from ∙ h.full;
      filled = ap length c.flip-2.ensures ∙ length_flipped h.second a.from a.to ∙ h.filled;
    }
