use Rattle.std.proofs.Common.{◌≡◌, ℕ, ◌^◌, ◌<◌, ◌≤◌, length, get_or, sym, refl, ◌∙◌, subst, arith, pow_mono, length-take-le, get_or-take}
use Rattle.std.proofs.Math.Seq.{length_front}
use Rattle.std.proofs.lemmas.List.{get_or_append_left}
use Rattle.tables.proofs.table.Table.by.Goals as goal

pub invariant_of-result : goal.invariant_of-result
invariant_of-result g c =
    let most : 2 ^ c.args.lines ≤ 256 = pow_mono c.requires.few in
    let long : length c.loop-word.place-items ≡ c.word_count.result = c.loop-word.auto.place-items ∙ length-take-le _ _ (omega (arith, c.word_count.ensures)) in
    let all : c.word_count.result ≤ c.loop-word.word = subst (λ (m : ℕ). m ≤ c.loop-word.word) (sym c.loop-word.auto.place-items ∙ long) c.loop-word-test.false in
    record {
      some = c.requires.some;
      few = c.requires.few;
      full = length_front _ _ _ c.loop-word.auto.place-items;
      below = λ x h.
          let here : x < length c.loop-word.place-items = omega (arith, c.word_count.ensures) in
          let told = c.loop-word.invariant x (omega arith) in
          subst (λ (v : ℕ). v < 2 ^ c.args.lines) (sym (get_or_append_left c.loop-word.place-items _ 0 x here)) (c.requires.words x (get_or c.loop-word.place-items x 0) h told);
    }

pub returns : goal.returns
returns g c =
    let most : 2 ^ c.args.lines ≤ 256 = pow_mono c.requires.few in
    let long : length c.loop-word.place-items ≡ c.word_count.result = c.loop-word.auto.place-items ∙ length-take-le _ _ (omega (arith, c.word_count.ensures)) in
    let all : c.word_count.result ≤ c.loop-word.word = subst (λ (m : ℕ). m ≤ c.loop-word.word) (sym c.loop-word.auto.place-items ∙ long) c.loop-word-test.false in
    record {
      lines = refl;
      images = λ x h.
          let here : x < length c.loop-word.place-items = omega (arith, c.word_count.ensures) in
          let told = c.loop-word.invariant x (omega arith) in
          subst (λ (v : ℕ). goal.F-post g c.args.image x v) (sym (get_or-take (2 ^ c.args.lines) _ x 0 h ∙ get_or_append_left c.loop-word.place-items _ 0 x here)) told;
    }
