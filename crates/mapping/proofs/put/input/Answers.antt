use Rattle.std.proofs.Common.{◌≡◌, ℕ, ◌+◌, ◌^◌, ◌<◌, ◌≤◌, length, sym, refl, ◌∙◌, subst, arith, get_or-take}
use lib.Bits.{bit_and, bit_or, bit_xor, and_self}
use Rattle.gates.specs.Mcts.{mct}
use Rattle.gates.specs.MctLaws.{mct_lawful}
use Rattle.mapping.proofs.ImageLaws.{Exchanged, none_exchanged, all_exchanged, exchanged_more, other_below, next_above, next_covers, words_few, unit_is, pair_swapped}
use Rattle.mapping.proofs.put.input.Goals as goal

pub loop-word-init : goal.loop-word-init
loop-word-init c =
    let t = c.args.table.now in
    let g = c.args.gate in
    let m = bit_or g.controls (2 ^ g.target) in
    let start = sym c.gate_lines-word.ensures in (
      refl,
      subst (λ (w : ℕ). bit_and w m ≡ m) start (and_self m),
      subst (Exchanged t.lines g t.images t.images) start (none_exchanged t.lines g c.requires t.images),
    )

pub exchange-requires : goal.exchange-requires
exchange-requires c =
    let n = c.args.table.now.lines in
    let g = c.args.gate in
    let w = c.loop-word.word in
    let same = sym c.loop-word.invariant.0 in
    let word : w < 2 ^ n = omega (arith, c.loop-word-test.true, c.word_count-count.ensures) in
    let other = subst (λ (v : ℕ). bit_xor w v < 2 ^ n) (sym (c.unit-bit.ensures ∙ unit_is n g c.requires)) (other_below n g c.requires w c.loop-word.invariant.1 word) in
    record { a = subst (λ (k : ℕ). w < 2 ^ k) same word; b = subst (λ (k : ℕ). bit_xor w c.unit-bit.result < 2 ^ k) same other }

pub loop-word-smaller : goal.loop-word-smaller
loop-word-smaller c = omega (arith, next_above c.loop-word.word c.gate_lines.result, c.loop-word-test.true)

pub loop-word-preserved : goal.loop-word-preserved
loop-word-preserved c =
    let t = c.args.table.now in
    let n = t.lines in
    let g = c.args.gate in
    let w = c.loop-word.word in
    let m = bit_or g.controls (2 ^ g.target) in
    let lines = sym c.gate_lines.ensures in
    let word : w < 2 ^ n = omega (arith, c.loop-word-test.true, c.word_count-count.ensures) in
    let bit = c.unit-bit.ensures ∙ unit_is n g c.requires in
    let long : 2 ^ n ≤ length c.loop-word.table.images = omega (arith, words_few n c.args.table.now.few, c.loop-word.table.full) in
    let swapped = pair_swapped n g c.requires w c.loop-word.invariant.1 word c.loop-word.table.images c.exchange.new.table.images c.unit-bit.result long bit c.exchange.ensures.images in
    let more = exchanged_more n g c.requires w c.loop-word.invariant.1 word t.images c.loop-word.table.images c.exchange.new.table.images swapped c.loop-word.invariant.2 in (
      c.exchange.ensures.lines ∙ c.loop-word.invariant.0,
      subst (λ (k : ℕ). bit_and (bit_or (w + 1) k) m ≡ m) lines (next_covers w m),
      subst (λ (k : ℕ). Exchanged n g t.images c.exchange.new.table.images (bit_or (w + 1) k)) lines more,
    )

pub returns : goal.returns
returns c =
    let t = c.args.table.now in
    let n = t.lines in
    let g = c.args.gate in
    let u = c.loop-word.table in
    let all : 2 ^ n ≤ c.loop-word.word = omega (arith, c.loop-word-test.false, c.word_count-count.ensures) in
    let done = all_exchanged n g c.requires t.images u.images c.loop-word.word all c.loop-word.invariant.2 in
    record {
      same_lines = c.loop-word.invariant.0;
      map = λ x h.
          get_or-take (2 ^ u.lines) u.images x 0 (subst (λ (k : ℕ). x < 2 ^ k) (sym c.loop-word.invariant.0) h)
          ∙ done x h ∙ sym (get_or-take (2 ^ n) t.images (mct.act n g x) 0 (mct_lawful.keeps n g x h));
    }
