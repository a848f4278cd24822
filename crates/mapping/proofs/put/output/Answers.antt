use Rattle.std.proofs.Common.{◌≡◌, ℕ, ◌^◌, ◌≤◌, cond, eqb, length, get_or, sym, refl, ap, ◌∙◌, arith, get_or-take}
use lib.Bits.{bit_and, bit_xor}
use Rattle.gates.specs.Mcts.{mct}
use Rattle.mapping.proofs.ImageLaws.{flip_of, passed_more, all_passed, passed_below, unit_is, words_few}
use Rattle.mapping.proofs.put.output.Goals as goal

pub loop-image-preserved : goal.loop-image-preserved
loop-image-preserved c =
    let g = c.args.gate in
    let i = c.loop-image.image-index in
    let v = get_or c.loop-image.image-items i 0 in
    let bit = c.unit-bit.ensures ∙ unit_is c.args.table.now.lines g c.requires in
    let is : c.flipped.result ≡ flip_of g v = c.flipped.ensures ∙ ap (λ (b : ℕ). cond (eqb (bit_and v g.controls) g.controls) (bit_xor v b) v) bit in
    passed_more g c.args.table.now.images c.loop-image.image-items i c.loop-image.invariant c.flipped.result (omega (arith, c.loop-image.invariant.long, c.args.table.now.full)) is

pub invariant_of-table : goal.invariant_of-table
invariant_of-table c =
    let t = c.args.table.now in
    let so = c.loop-image.invariant in
    let all : length c.loop-image.image-items ≤ c.loop-image.image-index = omega (arith, so.long, t.full) in
    record { some = t.some; few = t.few; full = so.long ∙ t.full; below = passed_below c.args.gate t.images c.loop-image.image-items c.loop-image.image-index so t.lines c.requires all (omega (arith, words_few t.lines t.few, t.full)) t.below }

pub returns : goal.returns
returns c =
    let t = c.args.table.now in
    let n = t.lines in
    let so = c.loop-image.invariant in
    let all : length c.loop-image.image-items ≤ c.loop-image.image-index = omega (arith, so.long, t.full) in
    let passed = all_passed c.args.gate t.images c.loop-image.image-items c.loop-image.image-index so n c.requires all (omega (arith, words_few n t.few, t.full)) t.below in
    record {
      same_lines = refl;
      map = λ x h. get_or-take (2 ^ n) c.loop-image.image-items x 0 h ∙ passed x h ∙ ap (mct.act n c.args.gate) (sym (get_or-take (2 ^ n) t.images x 0 h));
    }
