use Rattle.std.proofs.Common.{◌≡◌, ℕ, ◌+◌, true, ◌++◌, length, sym, refl, ap, ◌∙◌, subst, ap₂, arith, length-append}
use mathlib.Core.List.{map-append}
use lib.Bits.{bit_xor}
use Rattle.words.specs.Words.{bit}
use Rattle.gates.specs.Mcts.{mct_legal}
use Rattle.gates.specs.declared.end.End.{End}
use Rattle.mapping.specs.Took.{at_end}
use Rattle.mapping.specs.Works.{Worked}
use Rattle.mapping.specs.Mapping.{shrink, flips, mapping}
use Rattle.mapping.specs.Ones.{outside}
use Rattle.mapping.proofs.GateLaws.{gate}
use Rattle.mapping.proofs.MappingLaws.{first_legal, second_legal}
use Rattle.mapping.proofs.TookLaws.{took_more, took_free, at_end_length, lent_more}
use Rattle.mapping.proofs.work.Work.map_word.Goals as goal

-- the two rows of gates of the program make up the mapping
module _ (y x c a b : ℕ) (ec : c ≡ shrink y x) (ea : a ≡ outside (bit_xor x y) c) (eb : b ≡ outside c x) where
  first_is : a ≡ outside (bit_xor x y) (shrink y x)
  first_is = ea ∙ ap (outside (bit_xor x y)) ec

  second_is : b ≡ outside (shrink y x) x
  second_is = eb ∙ ap (λ (d : ℕ). outside d x) ec

  both_are : flips c a ++ flips x b ≡ mapping y x
  unfolding mapping
  both_are = ap₂ ◌++◌ (ap₂ flips ec first_is) (ap (flips x) second_is)

  both_long : length (flips c a) + length (flips x b) ≡ length (mapping y x)
  both_long = sym (length-append (flips c a) (flips x b)) ∙ ap length both_are

  both_at : (e : End) → at_end e (flips c a) ++ at_end e (flips x b) ≡ at_end e (mapping y x)
  both_at e = sym (map-append (λ g. (e, g)) (flips c a) (flips x b)) ∙ ap (at_end e) both_are

pub put_flips-requires : goal.put_flips-requires
put_flips-requires c =
    let d = c.args.self.now.table.now in
    let y = c.args.y in
    let x = c.args.x in
    let s = c.shrink-c.result in
    let a = c.without.result in
    let ec = c.shrink-c.ensures in
    let ea = c.without.ensures in
    record {
      legal = λ i e.
          subst (λ (k : ℕ). mct_legal d.lines (gate k i) ≡ true) (sym ec)
          (first_legal d.lines y x d.some d.few c.requires.order c.requires.word i
          (ap (λ (w : ℕ). bit w i) (sym (first_is y x s a (outside s x) ec ea refl)) ∙ e));
      room = omega (arith, c.requires.room, both_long y x s a (outside s x) ec ea refl);
    }

pub put_flips-requires-2 : goal.put_flips-requires-2
put_flips-requires-2 c =
    let d = c.args.self.now.table.now in
    let y = c.args.y in
    let x = c.args.x in
    let s = c.shrink-c.result in
    let a = c.without.result in
    let b = c.without-2.result in
    let ec = c.shrink-c.ensures in
    let ea = c.without.ensures in
    let eb = c.without-2.ensures in
    let left = took_free (at_end c.args.end (flips s a)) d c.args.self.now.book.now c.put_flips.new.self.table.now c.put_flips.new.self.book.now c.put_flips.ensures.took in
    record {
      legal = λ i e.
          subst (λ (n : ℕ). mct_legal n (gate x i) ≡ true) (sym c.put_flips.ensures.took.same_lines)
          (second_legal d.lines y x d.some d.few c.requires.order c.requires.word i (ap (λ (w : ℕ). bit w i) (sym (second_is y x s a b ec ea eb)) ∙ e));
      room = omega (arith, c.requires.room, both_long y x s a b ec ea eb, at_end_length c.args.end (flips s a));
    }

pub returns : goal.returns
returns c =
    let e = c.args.end in
    let y = c.args.y in
    let x = c.args.x in
    let s = c.shrink-c.result in
    let a = c.without.result in
    let b = c.without-2.result in
    let was = c.args.self.now in
    let mid = c.put_flips.new.self in
    let end = c.put_flips-2.new.self in
    subst (λ ps. Worked was ps end)
    (both_at y x s a b c.shrink-c.ensures c.without.ensures c.without-2.ensures e)
    (record {
      lent = lent_more was mid end c.put_flips.ensures.lent c.put_flips-2.ensures.lent;
      took = took_more (at_end e (flips s a)) (at_end e (flips x b)) was.table.now was.book.now mid.table.now mid.book.now end.table.now end.book.now
          c.put_flips.ensures.took c.put_flips-2.ensures.took;
    })
