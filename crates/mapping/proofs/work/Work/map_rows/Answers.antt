use Rattle.std.proofs.Common.{◌≡◌, ℕ, ◌-◌, ◌^◌, ◌<◌, ◌≤◌, length, get_or, sym, ◌∙◌, subst, arith}
use Rattle.std.proofs.lemmas.Bool.{ltb-true, ltb-false}
use Rattle.gates.specs.declared.end.End.TheVariants.{Input, Output}
use Rattle.books.specs.Books.{free}
use Rattle.mapping.specs.Took.{Took, at_end}
use Rattle.mapping.specs.Mapping.{mapping}
use Rattle.mapping.specs.Rows.{total}
use Rattle.mapping.proofs.LeastLaws.{look_start, look_better, look_worse}
use Rattle.mapping.proofs.RunLaws.{image, image_is, no_rows, row_room, row_put, row_free, row_chosen, zero_chosen, from_row, image_above, image_word, run_took, run_identity}
use Rattle.mapping.proofs.TookLaws.{took_free, at_end_length, same_lent, lent_more}
use Rattle.mapping.proofs.work.Work.map_rows.Goals as goal
use Rattle.mapping.proofs.work.Work.map_rows.Goals.{then-is_better, else-is_better}

pub rows-init : goal.rows-init
rows-init c =
    record { lent = same_lent c.args.self.now; mapped = no_rows c.args.self.now.table.now c.args.self.now.book.now c.requires.apart }

pub loop-word-init : goal.loop-word-init
loop-word-init c =
    let n = c.args.self.now.table.now.lines in
    let here : c.rows.row < 2 ^ n = omega (arith, c.rows-test.true, c.but_last-row-end.ensures, c.word_count-count.ensures) in (
      subst (λ (m : ℕ). c.rows.row < 2 ^ m) (sym c.rows.invariant.mapped.took.same_lines) here,
      look_start (total (image c.rows.self.table.now) c.rows.row) c.rows.row c.total_of-least.result c.total_of-least.ensures.is,
    )

pub total_of-least-requires : goal.total_of-least-requires
total_of-least-requires c =
    let n = c.args.self.now.table.now.lines in
    let row : c.rows.row < 2 ^ n = omega (arith, c.rows-test.true, c.but_last-row-end.ensures, c.word_count-count.ensures) in
    let here : c.rows.row < 2 ^ c.rows.self.table.now.lines = subst (λ (m : ℕ). c.rows.row < 2 ^ m) (sym c.rows.invariant.mapped.took.same_lines) row in
    record { row = here; word = here }

pub total_of-total-requires : goal.total_of-total-requires
total_of-total-requires c =
    let n = c.args.self.now.table.now.lines in
    let same = sym c.rows.invariant.mapped.took.same_lines in
    let row : c.rows.row < 2 ^ n = omega (arith, c.rows-test.true, c.but_last-row-end.ensures, c.word_count-count.ensures) in
    let word : c.loop-word.word < 2 ^ n = omega (arith, c.loop-word-test.true, c.word_count-count.ensures) in
    record {
      row = subst (λ (m : ℕ). c.rows.row < 2 ^ m) same row;
      word = subst (λ (m : ℕ). c.loop-word.word < 2 ^ m) same word;
    }

pub loop-word-preserved : goal.loop-word-preserved
loop-word-preserved c =
    let t = total (image c.rows.self.table.now) c.rows.row in
    let i = c.rows.row in
    let w = c.loop-word.word in
    let b = c.loop-word.best in
    let l = c.loop-word.least in
    let r = c.total_of-total.result in
    let n = c.args.self.now.table.now.lines in
    let here : w < 2 ^ n = omega (arith, c.loop-word-test.true, c.word_count-count.ensures) in
    let word : w < 2 ^ c.rows.self.table.now.lines = subst (λ (m : ℕ). w < 2 ^ m) (sym c.rows.invariant.mapped.took.same_lines) here in
    elim c.if-is_better.branch [
      | then-is_better v ↦ (
        subst (λ (k : ℕ). k < 2 ^ c.rows.self.table.now.lines) (sym v.best-is) word,
        look_better t i w b l r _ _ c.loop-word.invariant.1 c.loop-word.auto.word c.total_of-total.ensures.is c.if-total-eq0.false
            (ltb-true r l (sym v.if-is_better.ensures)) v.best-is v.least-is,
      )
      | else-is_better v ↦ (
        subst (λ (k : ℕ). k < 2 ^ c.rows.self.table.now.lines) (sym v.best-is) c.loop-word.invariant.0,
        look_worse t i w b l r _ _ c.loop-word.invariant.1 c.loop-word.auto.word c.total_of-total.ensures.is c.if-total-eq0.false
            (ltb-false r l (sym v.if-is_better.ensures)) v.best-is v.least-is,
      )
    ]

pub map_word-requires : goal.map_word-requires
map_word-requires c =
    let d = c.args.self.now.table.now in
    let b = c.args.self.now.book.now in
    let i = c.rows.row in
    let d' = c.rows.self.table.now in
    let b' = c.rows.self.book.now in
    let j = c.loop-word.best in
    let so = c.rows.invariant.mapped in
    let more : i < 2 ^ d.lines - 1 = omega (arith, c.rows-test.true, c.but_last-row-end.ensures, c.word_count-count.ensures) in
    let all : c.loop-word.word ≡ 2 ^ d.lines = omega (arith, c.loop-word-test.false, c.loop-word.auto.word-end, c.word_count-count.ensures) in
    let chosen = row_chosen d b i d' b' so more c.loop-word.word j c.loop-word.least all c.loop-word.invariant.1 in
    record {
      order = from_row d b i d' b' so more j chosen;
      word = c.loop-word.invariant.0;
      room = omega (arith, row_room d b i d' b' so more j chosen c.requires.room);
    }

pub map_word-requires-in-rows : goal.map_word-requires-in-rows
map_word-requires-in-rows c =
    let d = c.args.self.now.table.now in
    let b = c.args.self.now.book.now in
    let i = c.rows.row in
    let d' = c.rows.self.table.now in
    let b' = c.rows.self.book.now in
    let j = c.loop-word.best in
    let so = c.rows.invariant.mapped in
    let more : i < 2 ^ d.lines - 1 = omega (arith, c.rows-test.true, c.but_last-row-end.ensures, c.word_count-count.ensures) in
    let all : c.loop-word.word ≡ 2 ^ d.lines = omega (arith, c.loop-word-test.false, c.loop-word.auto.word-end, c.word_count-count.ensures) in
    let chosen = row_chosen d b i d' b' so more c.loop-word.word j c.loop-word.least all c.loop-word.invariant.1 in
    let took = c.map_word.ensures.took in
    let left = took_free (at_end Input (mapping j i)) d' b' c.map_word.new.self.table.now c.map_word.new.self.book.now took in
    let is = image_is c.rows.self.table.now j c.loop-word.invariant.0 in
    let room : length (mapping (image d' j) i) ≤ free c.map_word.new.self.book.now = omega (arith, row_room d b i d' b' so more j chosen c.requires.room, at_end_length Input (mapping j i)) in
    record {
      order = subst (λ (y : ℕ). i ≤ y) is (image_above d b i d' b' so more j chosen);
      word = subst (λ (n : ℕ). get_or c.rows.self.table.now.images j 0 < 2 ^ n) (sym (took.same_lines ∙ so.took.same_lines)) (subst (λ (y : ℕ). y < 2 ^ d.lines) is (image_word d b i d' b' so more j chosen));
      room = subst (λ (y : ℕ). length (mapping y i) ≤ free c.map_word.new.self.book.now) is room;
    }

pub rows-preserved-then-total-eq0 : goal.rows-preserved-then-total-eq0
rows-preserved-then-total-eq0 c =
    let d = c.args.self.now.table.now in
    let b = c.args.self.now.book.now in
    let i = c.rows.row in
    let d' = c.rows.self.table.now in
    let b' = c.rows.self.book.now in
    let w = c.loop-word.word in
    let so = c.rows.invariant.mapped in
    let more : i < 2 ^ d.lines - 1 = omega (arith, c.rows-test.true, c.but_last-row-end.ensures, c.word_count-count.ensures) in
    let word : w < 2 ^ d.lines = omega (arith, c.loop-word-test.true, c.word_count-count.ensures) in
    let none : total (image d') i w ≡ 0 = sym c.total_of-total.ensures.is ∙ c.if-total-eq0.true in
    let chosen = zero_chosen d b i d' b' so more w c.loop-word.best c.loop-word.least c.loop-word.invariant.1 c.loop-word.auto.word word none in
    record { lent = c.rows.invariant.lent; mapped = row_free d b i d' b' so more w chosen none }

pub rows-preserved : goal.rows-preserved
rows-preserved c =
    let d = c.args.self.now.table.now in
    let b = c.args.self.now.book.now in
    let i = c.rows.row in
    let d' = c.rows.self.table.now in
    let b' = c.rows.self.book.now in
    let j = c.loop-word.best in
    let so = c.rows.invariant.mapped in
    let more : i < 2 ^ d.lines - 1 = omega (arith, c.rows-test.true, c.but_last-row-end.ensures, c.word_count-count.ensures) in
    let all : c.loop-word.word ≡ 2 ^ d.lines = omega (arith, c.loop-word-test.false, c.loop-word.auto.word-end, c.word_count-count.ensures) in
    let chosen = row_chosen d b i d' b' so more c.loop-word.word j c.loop-word.least all c.loop-word.invariant.1 in
    let d₁ = c.map_word.new.self.table.now in
    let b₁ = c.map_word.new.self.book.now in
    let d₂ = c.map_word-in-rows.new.self.table.now in
    let b₂ = c.map_word-in-rows.new.self.book.now in
    let first = c.map_word.ensures in
    let second = c.map_word-in-rows.ensures in
    record {
      lent = lent_more c.args.self.now c.rows.self c.map_word-in-rows.new.self c.rows.invariant.lent
          (lent_more c.rows.self c.map_word.new.self c.map_word-in-rows.new.self first.lent second.lent);
      mapped = row_put d b i d' b' so more j chosen d₁ b₁ d₂ b₂ first.took
          (subst (λ (y : ℕ). Took d₁ b₁ (at_end Output (mapping y i)) d₂ b₂) (sym (image_is d' j c.loop-word.invariant.0)) second.took);
    }

pub returns : goal.returns
returns c =
    let d = c.args.self.now.table.now in
    let all : c.rows.row ≡ 2 ^ d.lines - 1 = omega (arith, c.rows-test.false, c.rows.auto.row-end, c.but_last-row-end.ensures, c.word_count-count.ensures) in
    record {
      worked = record {
        lent = c.rows.invariant.lent;
        took = run_took d c.args.self.now.book.now c.rows.row c.rows.self.table.now c.rows.self.book.now c.rows.invariant.mapped all;
      };
      identity = run_identity d c.args.self.now.book.now c.rows.row c.rows.self.table.now c.rows.self.book.now c.rows.invariant.mapped all;
    }
