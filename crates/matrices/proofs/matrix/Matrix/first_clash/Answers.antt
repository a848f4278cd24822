use Rattle.std.proofs.Common.{◌≡◌, ℕ, ◌^◌, length, sym, ap, ◌∙◌, subst, arith}
use lib.Bits.{bit_xor}
use Rattle.words.specs.Words.{bit, unit}
use Rattle.words.specs.Maps.{Apart}
use Rattle.words.proofs.Flips.{unit_power}
use Rattle.matrices.specs.Matrices.{image}
use Rattle.matrices.specs.Meanings.{rows_of}
use Rattle.matrices.proofs.Bases.{top_one, kept_more, kept_apart, clash_here}
use Rattle.matrices.proofs.Images.{image_sum}
use Rattle.matrices.proofs.matrix.Matrix.first_clash.Goals as goal

pub returns-then-found-eq0 : goal.returns-then-found-eq0
returns-then-found-eq0 c =
    let m = c.args.self.now in
    let f = image (rows_of m) in
    let basis = c.loop-t.basis.items in
    let found = c.reduced-found.result in
    let reduced = rw c.deref.ensures.0 at c.reduced-found.ensures in
    let one : unit c.loop-t.t ≡ 2 ^ length basis = unit_power c.loop-t.t (omega (arith, m.few)) ∙ ap (λ (n : ℕ). 2 ^ n) (sym c.loop-t.invariant.1) in
    clash_here f (image_sum (rows_of m)) basis c.loop-t.invariant.0 found reduced m.lines c.told.result (omega (arith, c.loop-t.invariant.1)) c.if-found-eq0.true
    (c.told.ensures.low ∙ ap (bit_xor found.word) one) (c.told.ensures.high ∙ one)

pub loop-t-preserved : goal.loop-t-preserved
loop-t-preserved c =
    let rows = rows_of c.args.self.now in
    let found = c.reduced-found.result in
    let reduced = rw c.deref.ensures.0 at c.reduced-found.ensures in
    let held = c.held.ensures in
    let pivot : bit c.held.result.image c.held.result.pivot ≡ 1 = ap (λ (w : ℕ). bit w c.held.result.pivot) held.image ∙ top_one found.image c.held.result.pivot held.high held.highest in
    let more = kept_more (image rows) (image_sum rows) c.loop-t.basis.items c.loop-t.invariant.0 found reduced c.held.result held.word held.image pivot in
    (rw c.push.ensures.items more, omega (arith, c.push.ensures.len, c.loop-t.invariant.1))

pub returns : goal.returns
returns c =
    let m = c.args.self.now in
    let rows = rows_of m in
    let end : length c.loop-t.basis.items ≡ m.lines = omega (arith, c.loop-t.invariant.1) in
    subst (λ (n : ℕ). Apart (2 ^ n) (image rows)) end (kept_apart (image rows) (image_sum rows) c.loop-t.basis.items c.loop-t.invariant.0)
